-- A bit of a word after a write.
use Rattle.console_core.proofs.Common.{cases_Bool, ◌≡◌, ℕ, ◌+◌, ◌/◌, ◌%◌, ◌^◌, ◌<◌, ◌≤◌, ◌≢◌, Bool, true, false}
use Rattle.console_core.proofs.Common.{not, ◌⊎◌, inl, inr, eqb, refl, ap, sym, ◌∙◌, if◌then◌else◌, arith, lit<}
use Rattle.console_core.proofs.Common.{eqb-true, eqb-false, ne_eqb, eq-eqb, suc, Holding, Lock, LeftShift, Caps}
use Rattle.console_core.proofs.Common.{holding_index, lock_index, bit_is_set, word_mark, word_lock}
use Rattle.console_core.proofs.Common.{word_second, mark_bit, lock_bit, rules}
use Rattle.keymap_core.specs.Actions.{same_lock}
use Prim.Native.Nat.{zero}
use Rattle.std.proofs.Common.{◌*◌, min, max, w32, ◌-◌}
use Rattle.std.specs.Prelude.{bit_and, bit_or, bit_xor}
use Rattle.std.specs.Int.{bit_at, bit_not}
use Rattle.std.proofs.lemmas.Nat.Bits.{bit_at_set_same, bit_at_set_other, bit_at_clear_same, bit_at_clear_other}
use Rattle.std.proofs.lemmas.Nat.Bits.{bit_at_xor, bit_at-pow_same, bit_at-pow_other, and_pow, bit_at-lt, bit_at_and}
use Rattle.std.proofs.lemmas.Nat.Bits.{bit_at_ones, bit_at_cat_low, bit_at_cat_high, bit_at_above, bit_at-zero}
use Rattle.std.proofs.lemmas.Nat.Bits.{bit_at_or, same_from_bits_below}
use Rattle.std.proofs.Math.Pow.{pow-lt, pow_pos}
use Rattle.std.proofs.Math.Nat.{mod-eq_of_lt, zero-mul, one-mul}
use Rattle.std.proofs.lemmas.Nat.{and_le_r, pow-add}
use native.Mathlib.Nat.{div-div-eq-div-mul}
use Rattle.console_core.proofs.Places.{modifier_index-lt}
use Rattle.console_core.specs.PackedWord.{pending_field}
use Rattle.keymap_core.specs.declared.action.Holding.TheVariants as holding

-- a bit after one was set
pub bit-set : (n k i : ℕ) → k < 32
    → bit_is_set (bit_or n (1 * 2 ^ k % 2 ^ 32)) i ≡ (if eqb k i then true else bit_is_set n i)
bit-set n k i lt = elim (cases_Bool (eqb k i)) [
  | inl e ↦ let s : k ≡ i = eqb-true k i e in rw (e, ← s, bit_at_set_same w32 n k lt) refl
  | inr e ↦ rw e (ap (λ x. eqb x 1) (bit_at_set_other w32 n k lt i (λ s. eqb-false k i e (sym s))))
]

-- a bit after one was cleared
pub bit-clear : (n k i : ℕ) → k < 32 → i < 32
    → bit_is_set (bit_and n (bit_not w32 (1 * 2 ^ k % 2 ^ 32))) i ≡ (if eqb k i then false else bit_is_set n i)
bit-clear n k i lt lt2 = elim (cases_Bool (eqb k i)) [
  | inl e ↦ let s : k ≡ i = eqb-true k i e in rw (e, ← s, bit_at_clear_same w32 n k lt) refl
  | inr e ↦ rw e (ap (λ x. eqb x 1) (bit_at_clear_other w32 n k lt i lt2 (λ s. eqb-false k i e (sym s))))
]

-- a bit of a word of 32 bits is a power of two
shl-one : (k : ℕ) → k < 32 → 1 * 2 ^ k % 2 ^ 32 ≡ 2 ^ k
shl-one k lt = let p : 2 ^ k < 2 ^ 32 = pow-lt lt in rw (one-mul (2 ^ k)) (mod-eq_of_lt p)

-- a number below 2
pub two_cases : (x : ℕ) → x < 2 → (x ≡ 0) ⊎ (x ≡ 1)
two_cases zero lt = inl refl
two_cases (suc zero) lt = inr refl
two_cases (suc (suc x)) lt = let e : ⊥ = omega arith in absurd e

tested : (x p : ℕ) → x < 2 → 0 < p → not (eqb (x * p) 0) ≡ eqb x 1
tested x p lt pos = search (rules, two_cases, zero-mul, one-mul, ne_eqb)

-- the test of a bit
pub bit-test : (n k : ℕ) → k < 32 → not (eqb (bit_and n (1 * 2 ^ k % 2 ^ 32)) 0) ≡ bit_is_set n k
bit-test n k lt = rw (shl-one k lt, and_pow n k) (tested (bit_at n k) (2 ^ k) (bit_at-lt n k) (pow_pos k))

-- a bit is turned
turned : (x : ℕ) → x < 2 → eqb ((x + 1) % 2) 1 ≡ not (eqb x 1)
turned x lt = elim (two_cases x lt) [ inl e ↦ rw e refl | inr e ↦ rw e refl ]

unturned : (x : ℕ) → x < 2 → eqb ((x + 0) % 2) 1 ≡ eqb x 1
unturned x lt = elim (two_cases x lt) [ inl e ↦ rw e refl | inr e ↦ rw e refl ]

-- a bit after one was turned
pub bit-turn : (n k i : ℕ) → k < 32
    → bit_is_set (bit_xor n (1 * 2 ^ k % 2 ^ 32)) i ≡ (if eqb k i then not (bit_is_set n i) else bit_is_set n i)
bit-turn n k i lt = elim (cases_Bool (eqb k i)) [
  | inl e ↦
      let s : k ≡ i = eqb-true k i e in
      rw (shl-one k lt, e, bit_at_xor n (2 ^ k) i, ← s, bit_at-pow_same k) (turned (bit_at n k) (bit_at-lt n k))
  | inr e ↦
      rw (shl-one k lt, e, bit_at_xor n (2 ^ k) i, bit_at-pow_other k i (λ s. eqb-false k i e (sym s)))
      (unturned (bit_at n i) (bit_at-lt n i))
]

pub lock_index-lt : (l : Lock) → lock_index l < 4
lock_index-lt Caps = lit< tt
lock_index-lt _ = lit< tt

-- the marks are the bits below 16
pub mark_bit-lt : (a : Holding) → mark_bit a < 16
mark_bit-lt (holding.Mod m) = let h : holding_index (holding.Mod m) < 8 = modifier_index-lt m in omega arith
mark_bit-lt (holding.Lock l) = let h : lock_index l < 4 = lock_index-lt l in omega arith

-- the locks are bits below 12
pub lock_bit-lt : (l : Lock) → lock_bit l < 12
lock_bit-lt l = let h : lock_index l < 4 = lock_index-lt l in omega arith

-- bits that are shifted alike are the same exactly where they were
shifted : (c i j : ℕ) (b : Bool) → eqb i j ≡ b → eqb (c + i) (c + j) ≡ b
shifted c i j true e = let s : i ≡ j = eqb-true i j e in eq-eqb (c + i) (c + j) (ap (λ x. c + x) s)
shifted c i j false e = ne_eqb (c + i) (c + j) (λ s. eqb-false i j e (omega arith))

-- marks are at the same bit exactly where their indices are the same
pub same_mark_bit : (a b : Holding) → eqb (mark_bit a) (mark_bit b) ≡ eqb (holding_index a) (holding_index b)
same_mark_bit (holding.Mod m) (holding.Mod n) = refl
same_mark_bit (holding.Lock l) (holding.Lock k) = search (rules, shifted)
same_mark_bit (holding.Mod m) (holding.Lock l) = search (rules, modifier_index-lt, ne_eqb)
same_mark_bit (holding.Lock l) (holding.Mod m) = search (rules, modifier_index-lt, ne_eqb)

-- locks are at the same bit exactly where they are the same
pub same_lock_bit : (l k : Lock) → eqb (lock_bit l) (lock_bit k) ≡ same_lock l k
same_lock_bit l k = shifted 8 (lock_index l) (lock_index k) (same_lock l k) (search rules)

mark-not_lock : (a : Holding) (l : Lock) → mark_bit a ≡ lock_bit l → ⊥
mark-not_lock (holding.Mod m) l e = search (rules, modifier_index-lt)
mark-not_lock (holding.Lock k) l e = let h : lock_index l < 4 = lock_index-lt l in omega arith

-- no mark is at the bit of a lock
pub mark_lock : (a : Holding) (l : Lock) → eqb (mark_bit a) (lock_bit l) ≡ false
mark_lock a l = ne_eqb _ _ (mark-not_lock a l)

-- no lock is at the bit of a mark
pub lock_mark : (a : Holding) (l : Lock) → eqb (lock_bit l) (mark_bit a) ≡ false
lock_mark a l = ne_eqb _ _ (λ e. mark-not_lock a l (sym e))

-- bit 20 is above the marks and locks
pub below_flag : (k : ℕ) → k < 16 → eqb k 20 ≡ false
below_flag k lt = ne_eqb k 20 (λ e. omega arith)

-- no bit of the marks and locks is bit 20
pub flag_above : (k : ℕ) → k < 16 → eqb 20 k ≡ false
flag_above k lt = ne_eqb 20 k (λ e. omega arith)

min_one : (x : ℕ) → x < 2 → min x 1 ≡ x
min_one x lt = omega arith

min_none : (x : ℕ) → min x 0 ≡ 0
min_none x = omega arith

-- the pending field, by its bits
bit_at-high : (n k i : ℕ) → bit_at (n / 2 ^ k) i ≡ bit_at n (k + i)
bit_at-high n k i = ap (λ x. x % 2) (div-div-eq-div-mul n (2 ^ k) (2 ^ i) ∙ ap (λ x. n / x) (sym (pow-add 2 k i)))

-- a bit of the pending field is one of the word
field-bit : (n i : ℕ) → i < 4 → bit_at (pending_field n) i ≡ bit_at n (16 + i)
field-bit n i lt =
    cc (bit_at_and (n / 2 ^ 16) 15 i, bit_at_ones 4 i lt, min_one _ (bit_at-lt (n / 2 ^ 16) i), bit_at-high n 16 i)

-- the pending field has four bits
pub field-lt : (n : ℕ) → pending_field n < 2 ^ 4
field-lt n = let h : pending_field n ≤ 15 = and_le_r (n / 2 ^ 16) 15 in omega arith

-- the pending field is the number of its four bits
field-is : (n c : ℕ) → c < 2 ^ 4 → ((i : ℕ) → i < 4 → bit_at n (16 + i) ≡ bit_at c i) → pending_field n ≡ c
field-is n c lt f = same_from_bits_below 4 (pending_field n) c (field-lt n) lt (λ i l. field-bit n i l ∙ f i l)

-- the pending field is the same where its four bits are
field-same : (n p : ℕ) → ((i : ℕ) → i < 4 → bit_at p (16 + i) ≡ bit_at n (16 + i)) → pending_field p ≡ pending_field n
field-same n p f = field-is p (pending_field n) (field-lt n) (λ i lt. f i lt ∙ sym (field-bit n i lt))

-- a set mark or lock leaves the pending field
pub field-set : (n k : ℕ) → k < 16 → pending_field (bit_or n (1 * 2 ^ k % 2 ^ 32)) ≡ pending_field n
field-set n k lt =
    let l32 : k < 32 = omega arith in field-same n _ (λ i lt2. bit_at_set_other w32 n k l32 (16 + i) (λ e. omega arith))

-- a cleared mark or lock leaves the pending field
pub field-clear : (n k : ℕ) → k < 16 → pending_field (bit_and n (bit_not w32 (1 * 2 ^ k % 2 ^ 32))) ≡ pending_field n
field-clear n k lt =
    let l32 : k < 32 = omega arith in
    field-same n _ (λ i lt2. bit_at_clear_other w32 n k l32 (16 + i) (omega arith) (λ e. omega arith))

same_bit : (x : ℕ) → x < 2 → (x + 0) % 2 ≡ x
same_bit x lt = elim (two_cases x lt) [ inl e ↦ rw e refl | inr e ↦ rw e refl ]

-- a turned bit outside of the pending field leaves it
field_turn : (n k : ℕ) → k < 32 → ((i : ℕ) → i < 4 → 16 + i ≢ k)
    → pending_field (bit_xor n (1 * 2 ^ k % 2 ^ 32)) ≡ pending_field n
field_turn n k lt other =
    search (rules, shl-one, field-same, bit_at_xor, bit_at-pow_other, same_bit, bit_at-lt)

-- a turned lock leaves the pending field
pub field-turn : (n k : ℕ) → k < 16 → pending_field (bit_xor n (1 * 2 ^ k % 2 ^ 32)) ≡ pending_field n
field-turn n k lt = field_turn n k (omega arith) (λ i lt2 e. omega arith)

-- an exchange of the maps leaves the pending field
pub field-exchange : (n : ℕ) → pending_field (bit_xor n (1 * 2 ^ 20 % 2 ^ 32)) ≡ pending_field n
field-exchange n = field_turn n 20 (omega arith) (λ i lt2 e. omega arith)

-- the mask of a reset keeps the locks and the map in force
mask_mark : (a : Holding) → bit_at 1052416 (mark_bit a) ≡ 0
mask_mark (holding.Mod LeftShift) = refl
mask_mark (holding.Lock Caps) = refl
mask_mark _ = refl

-- what a reset keeps includes the locks
mask_lock : (l : Lock) → bit_at 1052416 (lock_bit l) ≡ 1
mask_lock Caps = refl
mask_lock _ = refl

-- what a reset keeps excludes the pending field
mask_field : (i : ℕ) → i < 4 → bit_at 1052416 (16 + i) ≡ 0
mask_field (suc (suc (suc (suc i)))) lt = let e : ⊥ = omega arith in absurd e
mask_field _ lt = refl

-- a reset clears the marks
pub mark-after_reset : (n : ℕ) (a : Holding) → word_mark (bit_and n 1052416) a ≡ false
mark-after_reset n a = rw (bit_at_and n 1052416 (mark_bit a), mask_mark a, min_none (bit_at n (mark_bit a))) refl

-- a bit that a mask includes stays
masked_one : (n mask i : ℕ) → bit_at mask i ≡ 1 → bit_is_set (bit_and n mask) i ≡ bit_is_set n i
masked_one n mask i e = rw (bit_at_and n mask i, e, min_one (bit_at n i) (bit_at-lt n i)) refl

-- a reset keeps the locks
pub lock-after_reset : (n : ℕ) (l : Lock) → word_lock (bit_and n 1052416) l ≡ word_lock n l
lock-after_reset n l = masked_one n 1052416 (lock_bit l) (mask_lock l)

-- a reset keeps the map in force
pub second-after_reset : (n : ℕ) → word_second (bit_and n 1052416) ≡ word_second n
second-after_reset n = masked_one n 1052416 20 refl

-- a reset clears the pending field
pub field-after_reset : (n : ℕ) → pending_field (bit_and n 1052416) ≡ 0
field-after_reset n = search (rules, field-is, bit_at_and, mask_field, min_none, bit_at-zero)

-- another pending field
around_low : (i : ℕ) → i < 16 → bit_at 4293984255 i ≡ 1
around_low i lt = bit_at_cat_low 65520 16 65535 i lt ∙ bit_at_ones 16 i lt

-- the mask around the pending field excludes it
around_field : (i : ℕ) → i < 4 → bit_at 4293984255 (16 + i) ≡ 0
around_field (suc (suc (suc (suc i)))) lt = let e : ⊥ = omega arith in absurd e
around_field _ lt = refl

-- the pending field is above the marks and locks
code_low : (c i : ℕ) → c ≤ 15 → i < 16 → bit_at (c * 65536 % 2 ^ 32) i ≡ 0
code_low c i le lt =
    let p : c * 65536 < 2 ^ 32 = omega arith in
    let q : c * 65536 ≡ c * 2 ^ 16 + 0 = omega arith in
    rw (mod-eq_of_lt p, q, bit_at_cat_low c 16 0 i lt) (bit_at-zero i)

-- a code that is shifted to the pending field has its bits there
code_high : (c i : ℕ) → c ≤ 15 → bit_at (c * 65536 % 2 ^ 32) (16 + i) ≡ bit_at c i
code_high c i le =
    let p : c * 65536 < 2 ^ 32 = omega arith in
    let q : c * 65536 ≡ c * 2 ^ 16 + 0 = omega arith in
    let r : 16 + i - 16 ≡ i = omega arith in
    let s : 16 ≤ 16 + i = omega arith in
    rw (mod-eq_of_lt p, q, bit_at_cat_high c 16 0 (16 + i) (pow_pos 16) s, r) refl

max_none : (x : ℕ) → max x 0 ≡ x
max_none x = omega arith

none_max : (x : ℕ) → max 0 x ≡ x
none_max x = omega arith

-- a bit outside of the pending field stays when the field is written
around_bit : (c n i : ℕ) → bit_at 4293984255 i ≡ 1 → bit_at (c * 65536 % 2 ^ 32) i ≡ 0
    → bit_is_set (bit_or (bit_and n 4293984255) (c * 65536 % 2 ^ 32)) i ≡ bit_is_set n i
around_bit c n i e f = search (rules, bit_at_or, max_none, masked_one)

-- a mark or lock stays when the pending field is written
pub low-bit : (c n i : ℕ) → c ≤ 15 → i < 16
    → bit_is_set (bit_or (bit_and n 4293984255) (c * 65536 % 2 ^ 32)) i ≡ bit_is_set n i
low-bit c n i le lt = around_bit c n i (around_low i lt) (code_low c i le lt)

-- the pending field is below bit 20
code_flag : (c : ℕ) → c ≤ 15 → bit_at (c * 65536 % 2 ^ 32) 20 ≡ 0
code_flag c le = let lt : c < 2 ^ 4 = omega arith in code_high c 4 le ∙ bit_at_above c 4 4 lt (omega arith)

-- the map in force stays when the pending field is written
pub second-kept : (c n : ℕ) → c ≤ 15 → word_second (bit_or (bit_and n 4293984255) (c * 65536 % 2 ^ 32)) ≡ word_second n
second-kept c n le = around_bit c n 20 refl (code_flag c le)

-- the pending field has the code that was written
pub field-written : (c n : ℕ) → c ≤ 15 → pending_field (bit_or (bit_and n 4293984255) (c * 65536 % 2 ^ 32)) ≡ c
field-written c n le =
    field-is _ c (omega arith)
    (λ i lt. rw (
      bit_at_or (bit_and n 4293984255) (c * 65536 % 2 ^ 32) (16 + i),
      bit_at_and n 4293984255 (16 + i),
      around_field i lt,
      min_none (bit_at n (16 + i)),
      code_high c i le,
    )
    (none_max (bit_at c i)))

pub ruleset word_bits = (bit-set, bit-clear)
