-- The faults of a part, in the whole.
use Rattle.keymap_tables.proofs.Common.{rules, ◌≡◌, ℕ, ◌+◌, ◌-◌, ◌*◌, ◌<◌, ◌≤◌, ◌==◌, suc, zero, List, length, take}
use Rattle.keymap_tables.proofs.Common.{drop, refl, ◌∙◌, subst, sym, ap, arith, None, Some, false, mul_comm}
use Rattle.keymap_tables.proofs.Common.{from_le_bytes, slice_index, Option, nat_tests, FaultOf, zero_fault}
use Rattle.keymap_tables.proofs.Common.{number_fault, rows_fault, IsFirstFault, HasNoFault, part, TableFault}
use Rattle.keymap_tables.proofs.Common.{TableFaultKind}
use Rattle.std.specs.Int.{Width}
use Rattle.std.proofs.lemmas.Nat.{div-mul-add, mod-mul-add}
use Rattle.keymap_tables.specs.Faults.{split_fault}
use Rattle.keymap_tables.specs.Inner.Firsts.{IsFirstFilled}
use Rattle.keymap_tables.proofs.Sizes.{row-next}

-- The part has no fault, nor has what is before it.
pub none-after : (whole inner : FaultOf) (base size : ℕ) → ((q : ℕ) → q < size → whole (base + q) ≡ inner q)
    → HasNoFault whole base → HasNoFault inner size → HasNoFault whole (base + size)
none-after whole inner base size same before sound p below = grind (arith, same (p - base), sound (p - base))

-- The first fault of the part, where what is before it has none.
pub first-after : (whole inner : FaultOf) (base size : ℕ) (f : TableFault)
    → ((q : ℕ) → q < size → whole (base + q) ≡ inner q) → HasNoFault whole base → IsFirstFault inner f → f.offset < size
    → IsFirstFault whole (record f { offset = base + f.offset })
first-after whole inner base size f same before first inside =
    grind (arith, same f.offset, none-after whole inner base f.offset)

-- What follows has to be zeros, and is.
pub none-past : (kind : TableFaultKind) (whole : FaultOf) (bytes : List ℕ) (from n : ℕ)
    → ((p : ℕ) → from ≤ p → p < n → whole p ≡ zero_fault kind bytes p) → HasNoFault whole from
    → ((p : ℕ) → from ≤ p → slice_index bytes p ≡ 0) → HasNoFault whole n
none-past kind whole bytes from n same before empty p below = grind arith

-- What follows has to be zeros, and isn't.
pub first-past : (kind : TableFaultKind) (whole : FaultOf) (bytes : List ℕ) (from n : ℕ) (f : TableFault)
    → ((p : ℕ) → from ≤ p → p < n → whole p ≡ zero_fault kind bytes p) → HasNoFault whole from → length bytes ≤ n
    → IsFirstFilled bytes from kind f → IsFirstFault whole f
first-past kind whole bytes from n f same before long first = grind arith

-- The front of a list of bytes, and what follows it.
module _ (n : ℕ) (front back : List ℕ → FaultOf) (bytes : List ℕ) where
  -- the first fault of the front, and of what follows a front without one
  pub split-fails : (cut : List ℕ) (m : ℕ) (f : TableFault) → cut ≡ take n bytes → m ≤ n
      → IsFirstFault (front cut) f × (f.offset < m) → IsFirstFault (split_fault n front back bytes) f × (f.offset < n)
  split-fails cut m f same few fault = grind arith

  pub split-fails_behind : (cut : List ℕ) (at : ℕ) (f g : TableFault) → cut ≡ drop n bytes → at ≡ n
      → HasNoFault (front (take n bytes)) n → IsFirstFault (back cut) f → g ≡ record f { offset = at + f.offset }
      → IsFirstFault (split_fault n front back bytes) g
  split-fails_behind cut at f g same is sound fault after = grind arith

  pub split-passes : HasNoFault (front (take n bytes)) n → ((q : ℕ) → back (drop n bytes) q ≡ None) → (p : ℕ)
      → split_fault n front back bytes p ≡ None
  split-passes sound clean p = grind arith

-- Rows in use, and what follows them.
module _ (fault_in : ℕ → List ℕ → FaultOf) (size count : ℕ) (behind : FaultOf) (bytes : List ℕ) where
  pub row-at : (i q : ℕ) → i < count → q < size
      → rows_fault fault_in size count behind bytes (size * i + q) ≡ fault_in i (part bytes (size * i) size) q
  row-at i q used inside = search (rules, mul_comm, div-mul-add, mod-mul-add, nat_tests)

  pub row-past : (p : ℕ) → 0 < size → size * count ≤ p → rows_fault fault_in size count behind bytes p ≡ behind p
  row-past p some past = grind arith

  -- a further row without a fault
  pub row-passes : (i : ℕ) → i < count → HasNoFault (rows_fault fault_in size count behind bytes) (size * i)
      → HasNoFault (fault_in i (part bytes (size * i) size)) size
      → HasNoFault (rows_fault fault_in size count behind bytes) (size * (i + 1))
  row-passes i used before sound p below =
      grind (arith, none-after _ _ (size * i) size (λ q. row-at i q used) before sound p, row-next size i)

  -- the fault of a row, at its place
  pub row-fails : (i at : ℕ) (f g : TableFault) → i < count → at ≡ size * i
      → HasNoFault (rows_fault fault_in size count behind bytes) (size * i)
      → IsFirstFault (fault_in i (part bytes (size * i) size)) f → f.offset < size
      → g ≡ record f { offset = at + f.offset } → IsFirstFault (rows_fault fault_in size count behind bytes) g
  row-fails i at f g used is before first inside after =
      subst (IsFirstFault (rows_fault fault_in size count behind bytes))
      (sym (after ∙ ap (λ (k : ℕ). record f { offset = k + f.offset }) is))
      (first-after (rows_fault fault_in size count behind bytes) (fault_in i (part bytes (size * i) size)) (size * i)
      size f (λ q below. row-at i q used below) before first inside)

-- the bytes of a number without a fault
pub number-clean : (w : Width) (fault_in : ℕ → Option TableFaultKind) (bytes : List ℕ) (n : ℕ)
    → fault_in (from_le_bytes w bytes) ≡ None → HasNoFault (number_fault w fault_in bytes) n
number-clean w fault_in bytes n clean zero below = clean
number-clean w fault_in bytes n clean (suc p) below =
    let test : (suc p == 0) ≡ false = grind (arith, nat_tests) in rw test refl

-- Rows that are numbers.
module _ (w : Width) (fault_in : ℕ → ℕ → Option TableFaultKind) (size count : ℕ) (behind : FaultOf) (bytes : List ℕ)
  where
    pub number-passes : (i : ℕ) → i < count
        → HasNoFault (rows_fault (λ i. number_fault w (fault_in i)) size count behind bytes) (size * i)
        → fault_in i (from_le_bytes w (part bytes (size * i) size)) ≡ None
        → HasNoFault (rows_fault (λ i. number_fault w (fault_in i)) size count behind bytes) (size * (i + 1))
    number-passes i used before clean = search (rules, row-passes, number-clean)

    pub number-fails : (i : ℕ) (f : TableFault) → 0 < size → i < count → f.offset ≡ size * i
        → HasNoFault (rows_fault (λ i. number_fault w (fault_in i)) size count behind bytes) (size * i)
        → fault_in i (from_le_bytes w (part bytes (size * i) size)) ≡ Some f.kind
        → IsFirstFault (rows_fault (λ i. number_fault w (fault_in i)) size count behind bytes) f
    number-fails i f some used is before fault =
        let here : size * i + 0 ≡ f.offset = omega arith in
        record {
          here =
              subst (λ (p : ℕ). rows_fault (λ i. number_fault w (fault_in i)) size count behind bytes p ≡ Some f.kind)
              here (row-at (λ i. number_fault w (fault_in i)) size count behind bytes i 0 used some ∙ fault);
          before = λ p below. before p (omega arith);
        }

-- no fault up to a row, which is given in another way
pub upto : (fault_of : FaultOf) (size a b : ℕ) → a ≡ b → HasNoFault fault_of (size * a) → HasNoFault fault_of (size * b)
upto fault_of size a b same = subst (λ (k : ℕ). HasNoFault fault_of (size * k)) same
