-- Rows of equal size, of which those after the last one are blank.
use Rattle.keymap_tables.proofs.Common.{common_steps, rules, ◌≡◌, ℕ, ◌+◌, ◌-◌, ◌*◌, ◌/◌, ◌%◌, ◌<◌, ◌≤◌, zero, suc, List}
use Rattle.keymap_tables.proofs.Common.{[], ◌∷◌, ◌++◌, length, take, drop, get_or, replicate, refl, sym, ap, ◌∙◌, arith}
use Rattle.keymap_tables.proofs.Common.{subst, inl, inr, None, add-one, append_assoc, append-nil, length-append}
use Rattle.keymap_tables.proofs.Common.{length-drop, mul-suc, mul-zero, mul_comm, All, flat_map-append, cases_lt}
use Rattle.keymap_tables.proofs.Common.{take-append-drop, replicate-append-replicate, length-replicate, take_more}
use Rattle.keymap_tables.proofs.Common.{take_all, take_at, drop_at, drop-drop, same_lists, All-head, All-tail}
use Rattle.keymap_tables.proofs.Common.{All-get_or, All-append, All-replicate, mul-le-mul_left, mul-sub, flat_map}
use Rattle.keymap_tables.proofs.Common.{placed, FaultOf, rows_fault, rows_bytes, zeros, HasNoFault, part}
use Rattle.std.proofs.lemmas.List.{set_at}
use Rattle.std.proofs.lemmas.Nat.{mod_below}
use Rattle.std.proofs.Math.Nat.{mul-div-le, div-add-mod}
use Rattle.std.proofs.Math.Seq.{take-add}
use Rattle.keymap_tables.proofs.Lifting.{row-at}
use Rattle.keymap_tables.proofs.Sizes.{rows-size}

-- a list, and blanks up to a length
abbrev pub filled : {X : Type 0} → X → ℕ → List X → List X
filled blank n xs = xs ++ replicate (n - length xs) blank

-- what is filled up to n has the length n
pub length-filled : {X : Type 0} (blank : X) (n : ℕ) (xs : List X) → length xs ≤ n → length (filled blank n xs) ≡ n
length-filled blank n xs few =
    rw (length-append xs (replicate (n - length xs) blank), length-replicate (n - length xs) blank) (omega arith)

-- filling up with blanks changes no element
pub get_or-filled : {X : Type 0} (blank : X) (n : ℕ) (xs : List X) (i : ℕ) → i < n
    → get_or (filled blank n xs) i blank ≡ get_or xs i blank
get_or-filled blank n xs i inside = grind (arith, common_steps)

-- An element placed behind the last one.
pub placed-end : {X : Type 0} (blank : X) (xs : List X) (i : ℕ) (x : X) → length xs ≡ i
    → placed blank xs i x ≡ xs ++ x ∷ []
placed-end blank xs i x end = search (rules, set_at)

-- a slice that is given by its ends, and one of the place and the size of a row
pub cut : (bytes : List ℕ) (at n : ℕ) → take (at + n - at) (drop at bytes) ≡ part bytes at n
cut bytes at n = grind arith

-- the same where its place and its size are given otherwise
pub cut-at : (bytes : List ℕ) (at size a n : ℕ) → a ≡ at → n ≡ size
    → take (a + n - a) (drop a bytes) ≡ part bytes at size
cut-at bytes at size a n place whole = rw (place, whole) (cut bytes at size)

pub cut-row : (bytes : List ℕ) (size i n : ℕ) → n ≡ size
    → take (n * i + n - n * i) (drop (n * i) bytes) ≡ part bytes (size * i) size
cut-row bytes size i n is =
    ap (λ (k : ℕ). take (k * i + k - k * i) (drop (k * i) bytes)) is ∙ cut bytes (size * i) size

-- a slice from a place on
pub cut-rest : (bytes : List ℕ) (n at : ℕ) → at ≡ n → take (length bytes - at) (drop at bytes) ≡ drop n bytes
cut-rest bytes n at is =
    take_all (length bytes - at) (drop at bytes) (omega (arith, length-drop at bytes)) ∙ ap (λ (k : ℕ). drop k bytes) is

module _ {X : Type 0} (f : X → List ℕ) (size : ℕ) where
  -- rows of one size have that size times their number
  pub length-rows : (xs : List X) → All (λ x. length (f x) ≡ size) xs → length (flat_map f xs) ≡ size * length xs
  length-rows [] sized = rw mul-zero refl
  length-rows (x ∷ xs) sized =
      let rest = length-rows xs (All-tail (λ y. length (f y) ≡ size) x xs sized) in
      let first = All-head (λ y. length (f y) ≡ size) x xs sized in
      omega (arith, length-append (f x) (flat_map f xs), rest, first, mul-suc size (length xs))

  -- rows in use and zeros for the others have the size of all
  pub length-all : (n : ℕ) (xs : List X) → All (λ x. length (f x) ≡ size) xs → length xs ≤ n
      → length (rows_bytes f size n xs) ≡ n * size
  length-all n xs sized few = search (rules, length-append, rows-size, length-rows, length-replicate)

  -- a row, cut out
  pub row-in : (xs : List X) (rest : List ℕ) (i : ℕ) (d : X) → All (λ x. length (f x) ≡ size) xs → i < length xs
      → part (flat_map f xs ++ rest) (size * i) size ≡ f (get_or xs i d)
  row-in [] rest i d sized below = absurd (omega arith)
  row-in (x ∷ xs) rest zero d sized below = search (rules, All-head, mul-zero, append_assoc, take_at)
  row-in (x ∷ xs) rest (suc i) d sized below =
      let first : length (f x) ≡ size = All-head (λ y. length (f y) ≡ size) x xs sized in
      let place : size * suc i ≡ size + size * i = omega (arith, mul-suc size i) in
      let behind = drop_at (f x) (flat_map f xs ++ rest) size first in
      rw (place, append_assoc, ← drop-drop (size * i) size (f x ++ (flat_map f xs ++ rest)), behind)
      (row-in xs rest i d (All-tail (λ y. length (f y) ≡ size) x xs sized) (omega arith))

  -- rows of blanks are zeros
  flat_map-replicate : (x : X) (n : ℕ) → f x ≡ zeros size → flat_map f (replicate n x) ≡ zeros (size * n)
  flat_map-replicate x zero blank = rw mul-zero refl
  flat_map-replicate x (suc n) blank =
      let grown : size * suc n ≡ size + size * n = mul-suc size n ∙ omega arith in
      rw (blank, flat_map-replicate x n blank, grown) (replicate-append-replicate size (size * n) 0)

  -- the bytes of what is filled up are those of the rows, and then zeros
  pub flat_map-filled : (blank : X) (n : ℕ) (xs : List X) → f blank ≡ zeros size
      → flat_map f (filled blank n xs) ≡ rows_bytes f size n xs
  flat_map-filled blank n xs empty = rw (flat_map-append, flat_map-replicate blank (n - length xs) empty) refl

  -- a row of rows that are filled up with blanks is the element's, or blank
  pub filled-row : (blank : X) (n : ℕ) (xs : List X) (i : ℕ) → All (λ x. length (f x) ≡ size) xs
      → f blank ≡ zeros size → length xs ≤ n → i < n
      → part (rows_bytes f size n xs) (size * i) size ≡ f (get_or xs i blank)
  filled-row blank n xs i sized empty few inside =
      let long : length (f blank) ≡ size = ap length empty ∙ length-replicate size 0 in
      ap (λ (v : List ℕ). part v (size * i) size)
      (sym (flat_map-filled blank n xs empty) ∙ sym (append-nil (flat_map f (filled blank n xs))))
      ∙ row-in (filled blank n xs) [] i blank
      (All-append (λ x. length (f x) ≡ size) xs (replicate (n - length xs) blank) sized
      (All-replicate (λ x. length (f x) ≡ size) (n - length xs) blank long))
      (omega (arith, length-filled blank n xs few))
      ∙ ap f (get_or-filled blank n xs i inside)

  -- a further row, after a text
  pub rows-next : (blank : X) (n : ℕ) (xs : List X) (i : ℕ) (x : X) (text : List ℕ) → x ≡ get_or xs i blank
      → length xs ≤ n → i < n
      → (text ++ flat_map f (take i (filled blank n xs))) ++ f x ≡ text ++ flat_map f (take (i + 1) (filled blank n xs))
  rows-next blank n xs i x text here few inside =
      let within : i < length (filled blank n xs) = omega (arith, length-filled blank n xs few) in
      ap (λ (v : X). (text ++ flat_map f (take i (filled blank n xs))) ++ f v) here
      ∙ append_assoc text (flat_map f (take i (filled blank n xs))) (f (get_or xs i blank))
      ∙ ap (λ (v : List ℕ). text ++ v)
      (rw (take_more (filled blank n xs) i blank within, get_or-filled blank n xs i inside, flat_map-append)
      (ap (λ (v : List ℕ). flat_map f (take i (filled blank n xs)) ++ v) (sym (append-nil (f (get_or xs i blank))))))

  -- all rows
  pub rows-all : (blank : X) (n : ℕ) (xs : List X) (i : ℕ) → length xs ≤ n → n ≤ i → f blank ≡ zeros size
      → flat_map f (take i (filled blank n xs)) ≡ rows_bytes f size n xs
  rows-all blank n xs i few past empty = search (rules, take_all, length-filled, flat_map-filled)

  -- all rows, cut after one
  pub rows-cut : (blank : X) (n : ℕ) (xs : List X) (i : ℕ) (x : X) (text : List ℕ) → x ≡ get_or xs i blank
      → length xs ≤ n → i < n → f blank ≡ zeros size
      → text ++ rows_bytes f size n xs
      ≡ ((text ++ flat_map f (take i (filled blank n xs))) ++ f x) ++ flat_map f (drop (i + 1) (filled blank n xs))
  rows-cut blank n xs i x text here few inside empty =
      rw (
        rows-next blank n xs i x text here few inside,
        ← flat_map-filled blank n xs empty,
        append_assoc,
        ← flat_map-append,
        take-append-drop,
      )
      refl

  -- a further row, written
  pub rows-written : (xs : List X) (i : ℕ) (x d : X) (old new : List ℕ) → i < length xs → x ≡ get_or xs i d
      → old ≡ flat_map f (take i xs) → new ≡ old ++ f x → new ≡ flat_map f (take (i + 1) xs)
  rows-written xs i x d old new below here so_far grown = grind (arith, common_steps)

  -- all rows, written, and zeros behind them
  pub rows-ended : (n k : ℕ) (xs : List X) (i : ℕ) (old new : List ℕ) → i ≡ length xs → k ≡ n * size
      → old ≡ flat_map f (take i xs) → length old ≡ size * i → new ≡ old ++ zeros (k - length old)
      → new ≡ rows_bytes f size n xs
  rows-ended n k xs i old new end whole so_far long filled = search (rules, take_all, mul_comm, mul-sub)

  -- a further row, read
  pub rows-read : (bytes : List ℕ) (xs : List X) (i : ℕ) (x : X) → flat_map f xs ≡ take (size * i) bytes
      → part bytes (size * i) size ≡ f x → flat_map f (xs ++ x ∷ []) ≡ take (size * (i + 1)) bytes
  rows-read bytes xs i x so_far here = search (rules, add-one, mul-suc, flat_map-append, take-add, append-nil)

  -- all rows, read
  pub rows-whole : (n k : ℕ) (bytes : List ℕ) (xs : List X) → length xs ≡ k → length bytes ≡ n * size
      → flat_map f xs ≡ take (size * k) bytes → drop (size * k) bytes ≡ zeros (length bytes - size * k)
      → bytes ≡ rows_bytes f size n xs
  rows-whole n k bytes xs counted whole so_far empty = search (rules, mul_comm, mul-sub, take-append-drop)

  -- rows without a fault
  pub rows-clean : (fault_in : ℕ → List ℕ → FaultOf) (n : ℕ) (behind : FaultOf) (xs : List X) (rest : List ℕ) (d : X)
      → 0 < size → n ≡ length xs → All (λ x. length (f x) ≡ size) xs
      → ((i : ℕ) → i < length xs → HasNoFault (fault_in i (f (get_or xs i d))) size)
      → HasNoFault (rows_fault fault_in size n behind (flat_map f xs ++ rest)) (size * n)
  rows-clean fault_in n behind xs rest d some counted sized sound p within =
      let bytes = flat_map f xs ++ rest in
      let i = p / size in
      let q = p % size in
      let place : size * (p / size) + p % size ≡ p = div-add-mod p size in
      let inside : p % size < size = mod_below p size some in
      elim (cases_lt (p / size) n) [
        | inl used ↦ let below : p / size < length xs = omega arith in
            subst (λ (r : ℕ). rows_fault fault_in size n behind (flat_map f xs ++ rest) r ≡ None) place
            (row-at fault_in size n behind bytes i q used inside
            ∙ subst (λ (v : List ℕ). fault_in i v q ≡ None) (sym (row-in xs rest i d sized below))
            (sound i below q inside))
        | inr unused ↦ let far : size * n ≤ size * (p / size) = mul-le-mul_left size unused in
            absurd (omega (arith, mul-div-le p size))
      ]

  -- Two lists of rows with the same bytes are one, where the bytes of a row give it.
  pub same-rows : (P : X → Type 0) (xs ys : List X) (more other : List ℕ) → ((x y : X) → P x → P y → f x ≡ f y → x ≡ y)
      → All (λ x. length (f x) ≡ size) xs → All (λ x. length (f x) ≡ size) ys → All P xs → All P ys
      → length xs ≡ length ys → flat_map f xs ++ more ≡ flat_map f ys ++ other → xs ≡ ys
  same-rows P xs ys more other gives sized also known too counted same =
      same_lists xs ys counted (λ k d below.
      let within : k < length ys = omega arith in
      gives (get_or xs k d) (get_or ys k d) (All-get_or P xs k d below known) (All-get_or P ys k d within too)
      (sym (row-in xs more k d sized below) ∙ ap (λ (v : List ℕ). part v (size * k) size) same
      ∙ row-in ys other k d also within))

-- the first rows are the images of so many that there are
abbrev pub Reads : {X : Type 0} → (X → List ℕ) → (X → Type 0) → ℕ → List ℕ → ℕ → Type 0
Reads {X = X} f Is size bytes i =
    (xs : List X) × (length xs ≡ i) × (flat_map f xs ≡ take (size * i) bytes) × All Is xs
