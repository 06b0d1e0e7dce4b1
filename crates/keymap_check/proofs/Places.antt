-- The places of a key's cells, and the cells that it has.
use Rattle.keymap_check.proofs.Common.{◌≡◌, ℕ, ◌<◌, ◌≤◌, ◌+◌, ◌-◌, Bool, true, false, Some, None, refl, ap, subst, sym}
use Rattle.keymap_check.proofs.Common.{◌∙◌, inl, inr, if◌then◌else◌, arith, lt-ltb, le-ltb, Cell, Kind, MapValue, rules}
use Rattle.keymap_check.proofs.Common.{cell_at, IsCellOf, is_upper_live, live-upper, upper-is_live, first_below-no}
use Rattle.keymap_check.proofs.Common.{first_below-some, IsFirstBelow, is_of_kind, place_count, cell_of, first_place}
use Rattle.keymap_check.proofs.Common.{cases_lt, Option, true≢false, is_some, ◌↔◌}
use Rattle.keymap_core.specs.Bearers.{StandsIn}
use Rattle.keymap_core.proofs.Shared.{NoneBelow}
use Rattle.keymap_check.specs.Inner.Surveyed.{is_holding_kind}
use Rattle.keymap_check.proofs.Common.{Act, false, is_any_holding}
use Rattle.keymap_check.proofs.Same.{is_holding-true, holding-any}
use Rattle.keymap_core.specs.declared.action.Action.TheVariants as act
use Rattle.keymap_check.specs.declared.kind.Kind.TheVariants as kind

-- a key has 16 places where the upper half is live, and else 8
pub count_if : (m : MapValue) (t : Bool) → is_upper_live m ≡ t → place_count m ≡ (if t then 16 else 8)
unfolding place_count
count_if m t e = ap (λ x. if x then 16 else 8) e

-- a place below 8 is in the lower slot
low-cell : (m : MapValue) (k p : ℕ) → p < 8 → cell_of m k p ≡ cell_at m k p
low-cell m k p h = rw (lt-ltb p 8 h) refl

-- a place from 8 on is in the upper slot
high-cell : (m : MapValue) (k p : ℕ) → 8 ≤ p → cell_of m k p ≡ cell_at m (k + 128) (p - 8)
high-cell m k p h = rw (le-ltb p 8 h) refl

-- each place has a cell of the key, by whether the upper half is live
place_by : (m : MapValue) (k p : ℕ) (t : Bool) → is_upper_live m ≡ t → p < place_count m → IsCellOf m k (cell_of m k p)
place_by m k p true live lt =
    let lt16 : p < 16 = subst (λ n. p < n) (count_if m true live) lt in
    elim (cases_lt p 8) [
      | inl s ↦ inl (p, s, sym (low-cell m k p s))
      | inr s ↦ inr (live-upper m live, (p - 8, omega (arith, lt16, s), sym (high-cell m k p s)))
    ]
place_by m k p false live lt =
    let lt8 : p < 8 = subst (λ n. p < n) (count_if m false live) lt in
    inl (p, lt8, sym (low-cell m k p lt8))

-- each place has a cell of the key
pub place-cell : (m : MapValue) (k p : ℕ) → p < place_count m → IsCellOf m k (cell_of m k p)
place-cell m k p lt = place_by m k p (is_upper_live m) refl lt

-- where a cell of the key stands
abbrev pub HasPlace : MapValue → ℕ → Cell → Type 0
HasPlace m k x = (p : ℕ) × (p < place_count m) × (cell_of m k p ≡ x)

-- a key has at least 8 places
pub count_least : (m : MapValue) (t : Bool) → is_upper_live m ≡ t → 8 ≤ place_count m
count_least m true e = let c : place_count m ≡ 16 = count_if m true e in omega (arith, c)
count_least m false e = let c : place_count m ≡ 8 = count_if m false e in omega (arith, c)

-- each cell of a key has a place
pub cell-place : (m : MapValue) (k : ℕ) (x : Cell) → IsCellOf m k x → HasPlace m k x
cell-place m k x (inl s) = search (rules, count_least, low-cell)
cell-place m k x (inr s) =
    let c : place_count m ≡ 16 = count_if m true (upper-is_live m s.0) in
    let s1 : StandsIn m (k + 128) x = s.1 in
    let e : (s1.0 + 8) - 8 ≡ s1.0 = omega arith in
    let lt : s1.0 + 8 < 16 = omega (arith, s1.1) in (
      s1.0 + 8,
      omega (arith, c, lt),
      high-cell m k (s1.0 + 8) (omega arith)
          ∙ ap (λ j. cell_at m (k + 128) j) e ∙ s1.2,
    )

-- the first place of a kind
pub first_place-some : (m : MapValue) (x : Kind) (k p : ℕ) → first_place m x k ≡ Some p
    → IsFirstBelow (λ q. is_of_kind x (cell_of m k q)) (place_count m) p
unfolding first_place
first_place-some m x k p e = first_below-some (λ q. is_of_kind x (cell_of m k q)) (place_count m) p e

-- the first place of a kind has a cell of the key of that kind
pub first_place-cell : (m : MapValue) (x : Kind) (k p : ℕ) → first_place m x k ≡ Some p
    → IsCellOf m k (cell_of m k p) × (is_of_kind x (cell_of m k p) ≡ true)
first_place-cell m x k p e =
    let s : IsFirstBelow (λ q. is_of_kind x (cell_of m k q)) (place_count m) p = first_place-some m x k p e in
    (place-cell m k p s.0, s.1)

-- where no place is found, none has a cell of the kind
first_place-no : (m : MapValue) (x : Kind) (k : ℕ) → first_place m x k ≡ None
    → NoneBelow (λ q. is_of_kind x (cell_of m k q)) (place_count m)
unfolding first_place
first_place-no m x k e = first_below-no (λ q. is_of_kind x (cell_of m k q)) (place_count m) e

-- where no place is found, no cell of the key is of the kind
pub no_place-cell : (m : MapValue) (x : Kind) (k : ℕ) → first_place m x k ≡ None → (y : Cell) → IsCellOf m k y
    → is_of_kind x y ≡ false
no_place-cell m x k e y is =
    let p : HasPlace m k y = cell-place m k y is in
    ap (λ z. is_of_kind x z) (sym p.2) ∙ first_place-no m x k e p.0 p.1

-- the key has a cell of the kind
abbrev pub HasCellOf : MapValue → ℕ → Kind → Type 0
HasCellOf m k x = (y : Cell) × IsCellOf m k y × (is_of_kind x y ≡ true)

-- the key has a cell of the kind exactly if a first place is found
cell_by : (m : MapValue) (x : Kind) (k : ℕ) (o : Option ℕ) → first_place m x k ≡ o
    → (is_some o ≡ true) ↔ HasCellOf m k x
cell_by m x k None e =
    ((λ t. absurd (true≢false (sym t))), λ h. absurd (true≢false (sym h.2 ∙ no_place-cell m x k e h.0 h.1)))
cell_by m x k (Some p) e =
    let s = first_place-cell m x k p e in ((λ t. (cell_of m k p, s.0, s.1)), λ h. refl)

pub has-cell : (m : MapValue) (x : Kind) (k : ℕ) → (is_some (first_place m x k) ≡ true) ↔ HasCellOf m k x
has-cell m x k = cell_by m x k (first_place m x k) refl

-- a cell of a kind of modifiers and locks is one of these
kind-holding : (x : Kind) (y : Cell) → is_holding_kind x ≡ true → is_of_kind x y ≡ true → is_any_holding y ≡ true
kind-holding kind.AnyHolding y of e = e
kind-holding (kind.Holding a) y of e = rw (is_holding-true a y e) (holding-any a)
kind-holding (kind.Of g) (Act (act.Mod i)) of e = refl
kind-holding (kind.Of g) y of e = absurd (true≢false (sym e))
kind-holding x y of e = absurd (true≢false (sym of))

-- a key without modifiers and locks has no place of a kind of these
none_by : (m : MapValue) (k : ℕ) (x : Kind) (o : Option ℕ) → first_place m x k ≡ o → is_holding_kind x ≡ true
    → is_some (first_place m kind.AnyHolding k) ≡ false → o ≡ None
none_by m k x None e of none = refl
none_by m k x (Some p) e of none =
    let s = first_place-cell m x k p e in
    let y = cell_of m k p in
    absurd (true≢false (sym ((has-cell m kind.AnyHolding k).1 (y, s.0, kind-holding x y of s.1)) ∙ none))

pub none-holding : (m : MapValue) (k : ℕ) (x : Kind) → is_holding_kind x ≡ true
    → is_some (first_place m kind.AnyHolding k) ≡ false → first_place m x k ≡ None
none-holding m k x of none = none_by m k x (first_place m x k) refl of none
