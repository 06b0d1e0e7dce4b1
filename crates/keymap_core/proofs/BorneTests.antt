-- The test whether some key bears a holding action, in words.
use Rattle.keymap_core.proofs.Common.{zero, suc, ◌↔◌, ◌≡◌, ℕ, ◌+◌, ◌<◌, Bool, true, false, ◌||◌, ◌&&◌, refl, ap, sym}
use Rattle.keymap_core.proofs.Common.{◌∙◌, inl, inr, arith, eqb, or_cases, and_parts, true≢false, eqb-true, eq-eqb}
use Rattle.keymap_core.proofs.Common.{Action, Cell, holding_action, MapValue, cell_at, any_below, is_cell_of_action}
use Rattle.keymap_core.proofs.Common.{has_in_slot, is_upper_live, is_borne, rules}
use Rattle.std.proofs.lemmas.Bool.{cases_Bool, or_left, or_right}
use Rattle.keymap_core.specs.declared.action.Holding.{Holding}
use Rattle.keymap_core.specs.declared.entry.Cell.TheVariants.{Char, Act}
use Rattle.keymap_core.specs.Borne.{has_in_half}
use Rattle.keymap_core.specs.Bearers.{StandsIn, IsUpperLive, Bears}
use Rattle.keymap_core.proofs.SameActions.{same_action-true, same_action-refl}
use Rattle.keymap_core.specs.declared.action.Modifier.TheVariants as modifier
use Rattle.keymap_core.specs.declared.action.Lock.TheVariants as lock
use Rattle.keymap_core.specs.declared.action.Action.TheVariants as act
use Rattle.keymap_core.specs.declared.action.Holding.TheVariants as holding

-- no number is below 0
pub any-start : (test : ℕ → Bool) → any_below test 0 ≡ false
unfolding any_below
any-start test = refl

-- below n + 1 are the numbers below n, and n
any-suc : (test : ℕ → Bool) (n : ℕ) → any_below test (suc n) ≡ (any_below test n || test n)
unfolding any_below
any-suc test n = refl

-- below n + 1 are the numbers below n, and n, where the code counts up
pub any-more : (test : ℕ → Bool) (n : ℕ) → any_below test (n + 1) ≡ (any_below test n || test n)
any-more test n = let e : n + 1 ≡ suc n = omega arith in ap (λ x. any_below test x) e ∙ any-suc test n

-- where none below n passes, and n doesn't, none below n + 1 does
pub any-none : (test : ℕ → Bool) (n : ℕ) → any_below test n ≡ false → test n ≡ false → any_below test (n + 1) ≡ false
any-none test n e f = rw (any-more test n, e, f) refl

-- a number that passes is found below each larger number
pub any-some : (test : ℕ → Bool) (i n : ℕ) → i < n → test i ≡ true → any_below test n ≡ true
unfolding any_below
any-some test i zero lt e = let f : ⊥ = omega arith in absurd f
any-some test i (suc n) lt e =
    elim (cases_Bool (eqb i n)) [
      | inl s ↦ or_right (any_below test n) (test n) (ap test (sym (eqb-true i n s)) ∙ e)
      | inr s ↦
          let ne : i ≡ n → ⊥ = λ f. true≢false (sym (eq-eqb i n f) ∙ s) in
          or_left (any_below test n) (test n) (any-some test i n (omega arith) e)
    ]

-- where any_below passes, some number below the bound does
pub some-any : (test : ℕ → Bool) (n : ℕ) → any_below test n ≡ true → (i : ℕ) × (i < n) × (test i ≡ true)
unfolding any_below
some-any test zero e = absurd (true≢false (sym e))
some-any test (suc n) e =
    elim (or_cases (any_below test n) (test n) e) [
      | inl s ↦ let t : (i : ℕ) × (i < n) × (test i ≡ true) = some-any test n s in (t.0, omega (arith, t.1), t.2)
      | inr s ↦ (n, omega arith, s)
    ]

-- a cell that the test takes for an action is that action
cell-is : (a : Action) (x : Cell) → is_cell_of_action a x ≡ true → x ≡ Act a
cell-is a (Char c) e = absurd (true≢false (sym e))
cell-is a (Act b) e = ap Act (same_action-true b a e)

-- where the test of a slot passes, the action stands in the slot
pub slot-stands : (m : MapValue) (a : Action) (slot : ℕ) → has_in_slot m a slot ≡ true → StandsIn m slot (Act a)
unfolding has_in_slot
slot-stands m a slot e =
    let s : (i : ℕ) × (i < 8) × (is_cell_of_action a (cell_at m slot i) ≡ true) = some-any _ 8 e in
    (s.0, s.1, cell-is a _ s.2)

-- an action that stands in a slot passes the slot's test
pub stands-slot : (m : MapValue) (a : Action) (slot : ℕ) → StandsIn m slot (Act a) → has_in_slot m a slot ≡ true
unfolding has_in_slot
stands-slot m a slot s = any-some _ s.0 8 s.1 (ap (λ x. is_cell_of_action a x) s.2 ∙ same_action-refl a)

plus-zero : (k : ℕ) → k + 0 ≡ k
plus-zero k = omega arith

-- where the test of the lower half passes, the action stands in a slot below 128
pub lower-stands : (m : MapValue) (a : Action) → has_in_half m a 0 ≡ true → (k : ℕ) × (k < 128) × StandsIn m k (Act a)
unfolding has_in_half
lower-stands m a e =
    let s : (i : ℕ) × (i < 128) × (has_in_slot m a (i + 0) ≡ true) = some-any _ 128 e in
    (s.0, s.1, slot-stands m a s.0 (ap (λ x. has_in_slot m a x) (sym (plus-zero s.0)) ∙ s.2))

-- an action in a slot below 128 passes the test of the lower half
pub stands-lower : (m : MapValue) (a : Action) (k : ℕ) → k < 128 → StandsIn m k (Act a) → has_in_half m a 0 ≡ true
unfolding has_in_half
stands-lower m a k lt s = any-some _ k 128 lt (ap (λ x. has_in_slot m a x) (plus-zero k) ∙ stands-slot m a k s)

-- where the test of the upper half passes, the action stands in a slot from 128 on
pub upper-stands : (m : MapValue) (a : Action) → has_in_half m a 128 ≡ true
    → (k : ℕ) × (k < 128) × StandsIn m (k + 128) (Act a)
unfolding has_in_half
upper-stands m a e =
    let s : (i : ℕ) × (i < 128) × (has_in_slot m a (i + 128) ≡ true) = some-any _ 128 e in
    (s.0, s.1, slot-stands m a (s.0 + 128) s.2)

-- an action in a slot from 128 on passes the test of the upper half
pub stands-upper : (m : MapValue) (a : Action) (k : ℕ) → k < 128 → StandsIn m (k + 128) (Act a)
    → has_in_half m a 128 ≡ true
unfolding has_in_half
stands-upper m a k lt s = any-some _ k 128 lt (stands-slot m a (k + 128) s)

-- where the test passes, the upper half is live
pub live-upper : (m : MapValue) → is_upper_live m ≡ true → IsUpperLive m
unfolding is_upper_live
live-upper m e =
    elim (or_cases (has_in_half m (act.Mod modifier.AltShift) 0) _ e) [
      | inl s ↦
          let t : (k : ℕ) × (k < 128) × StandsIn m k (Act (act.Mod modifier.AltShift)) = lower-stands m _ s in
          (t.0, t.1, inl t.2)
      | inr s ↦
          let t : (k : ℕ) × (k < 128) × StandsIn m k (Act (act.Lock lock.Alt)) = lower-stands m _ s in
          (t.0, t.1, inr t.2)
    ]

-- a live upper half passes the test
pub upper-is_live : (m : MapValue) → IsUpperLive m → is_upper_live m ≡ true
unfolding is_upper_live
upper-is_live m s =
    elim s.2 [
      | inl x ↦ or_left _ _ (stands-lower m _ s.0 s.1 x)
      | inr x ↦ or_right _ _ (stands-lower m _ s.0 s.1 x)
    ]

-- the test holds exactly if some key bears the action
pub borne-bears : (m : MapValue) (a : Holding) → is_borne m a ≡ true → (k : ℕ) × (k < 128) × Bears m k a
unfolding is_borne
borne-bears m a e =
    elim (or_cases (has_in_half m (holding_action a) 0) _ e) [
      | inl s ↦
          let t : (k : ℕ) × (k < 128) × StandsIn m k (Act (holding_action a)) = lower-stands m _ s in
          (t.0, t.1, inl t.2)
      | inr s ↦
          let p : (is_upper_live m ≡ true) × (has_in_half m (holding_action a) 128 ≡ true) = and_parts _ _ s in
          let t : (k : ℕ) × (k < 128) × StandsIn m (k + 128) (Act (holding_action a)) = upper-stands m _ p.1 in
          (t.0, t.1, inr (live-upper m p.0, t.2))
    ]

-- a holding action that a key bears passes the test
pub bears-borne : (m : MapValue) (a : Holding) (k : ℕ) → k < 128 → Bears m k a → is_borne m a ≡ true
unfolding is_borne
bears-borne m a k lt (inl s) =
    or_left (has_in_half m (holding_action a) 0) (is_upper_live m && has_in_half m (holding_action a) 128)
    (stands-lower m (holding_action a) k lt s)
bears-borne m a k lt (inr s) =
    or_right (has_in_half m (holding_action a) 0) (is_upper_live m && has_in_half m (holding_action a) 128)
    (rw (upper-is_live m s.0, stands-upper m (holding_action a) k lt s.1) refl)

-- the test passes exactly for the holding actions that some key bears
pub borne-same : (m : MapValue) (a : Holding) → (is_borne m a ≡ true) ↔ ((k : ℕ) × (k < 128) × Bears m k a)
borne-same m a = (borne-bears m a, λ s. bears-borne m a s.0 s.1 s.2)

-- the test passes exactly where the upper half is live
pub live-same : (m : MapValue) → (is_upper_live m ≡ true) ↔ IsUpperLive m
live-same m = (live-upper m, upper-is_live m)

-- a key that bears the alt lock makes the upper half live
borne_upper_by : (m : MapValue) (k : ℕ) → k < 128 → Bears m k (holding.Lock lock.Alt) → IsUpperLive m
borne_upper_by m k lt (inl s) = (k, lt, inr s)
borne_upper_by m k lt (inr s) = s.0

-- the upper slots are live where some key bears alock
pub borne-upper : (m : MapValue) → is_borne m (holding.Lock lock.Alt) ≡ true → IsUpperLive m
borne-upper m e = search (rules, borne-bears, borne_upper_by)

-- what the loops keep
pub slot-none : (m : MapValue) (a : Action) (slot column : ℕ)
    → any_below (λ i. is_cell_of_action a (cell_at m slot i)) column ≡ false
    → is_cell_of_action a (cell_at m slot column) ≡ false
    → any_below (λ i. is_cell_of_action a (cell_at m slot i)) (column + 1) ≡ false
slot-none m a slot column e f = any-none _ column e f

-- the scan of a slot may end at a cell that is the action
pub slot-some : (m : MapValue) (a : Action) (slot column : ℕ) → column < 8
    → is_cell_of_action a (cell_at m slot column) ≡ true → has_in_slot m a slot ≡ true
unfolding has_in_slot
slot-some m a slot column lt e = any-some _ column 8 lt e

-- after eight cells that aren't the action, the slot doesn't have it
pub slot-end : (m : MapValue) (a : Action) (slot column : ℕ) → column ≡ 8
    → any_below (λ i. is_cell_of_action a (cell_at m slot i)) column ≡ false → has_in_slot m a slot ≡ false
unfolding has_in_slot
slot-end m a slot column e f = ap (λ n. any_below (λ i. is_cell_of_action a (cell_at m slot i)) n) (sym e) ∙ f

-- the scan of a half may end at a slot that has the action
pub half-some : (m : MapValue) (a : Action) (from key : ℕ) → key < 128 → has_in_slot m a (key + from) ≡ true
    → has_in_half m a from ≡ true
unfolding has_in_half
half-some m a from key lt e = any-some _ key 128 lt e

-- after 128 slots without the action, the half doesn't have it
pub half-end : (m : MapValue) (a : Action) (from key : ℕ) → key ≡ 128
    → any_below (λ k. has_in_slot m a (k + from)) key ≡ false → has_in_half m a from ≡ false
unfolding has_in_half
half-end m a from key e f = ap (λ n. any_below (λ k. has_in_slot m a (k + from)) n) (sym e) ∙ f
