-- The findings, read as statements on the map.
use Rattle.keymap_check.proofs.Common.{zero, suc, ◌≡◌, ℕ, ◌<◌, ◌≤◌, ◌+◌, ◌-◌, Bool, true, false, List, [], ◌∷◌, ◌++◌}
use Rattle.keymap_check.proofs.Common.{Option, Some, None, refl, ap, subst, sym, ◌∙◌, inl, inr, arith, All, true≢false}
use Rattle.keymap_check.proofs.Common.{lt-ltb, le-ltb, Holding, Cell, Act, Kind, Finding, holding_action, MapValue}
use Rattle.keymap_check.proofs.Common.{cell_at, IsUpperLive, gathered, IsFirstBelow, below-suc, is_upper_live, rules}
use Rattle.keymap_check.proofs.Common.{is_of_kind, cell_of, place_count, first_place, is_character, is_any_holding}
use Rattle.keymap_check.proofs.Common.{findings_at, finding_by, finding_with, held_by, All-nil, IsUnsafeKey, live-upper}
use Rattle.keymap_check.proofs.Common.{upper-is_live, cases_lt, append-nil, has_some}
use Rattle.std.specs.Prelude.{AllPairs, Any}
use Rattle.keymap_check.specs.Types.{Place}
use Rattle.keymap_check.specs.Cells.{slot_at, column_at, place_at}
use Rattle.std.proofs.lemmas.Grind.{common_steps}
use Rattle.std.proofs.lemmas.List.Elements.{All-push}
use Rattle.std.proofs.lemmas.Option.{same_Some}
use Rattle.std.proofs.lemmas.List.Quantifiers.{Any-push, all_pairs_push}
use Rattle.keymap_check.specs.Findings.{IsPlaceOf, NotAfter, IsFirstOf, IsHoldingCell, IsCharacterCell, IsFinding}
use Rattle.keymap_check.specs.Report.{FindingsAreComputed}
use Rattle.keymap_check.proofs.Same.{character-cell, holding-cell, IsHeldBy, holding-any}
use Rattle.keymap_check.proofs.Places.{first_place-some, count_if, count_least}
use Rattle.keymap_check.proofs.Findings.{unsafe-key}
use Rattle.keymap_check.specs.declared.kind.Kind.TheVariants as kind

-- the place with a number
place_low : (k p : ℕ) → p < 8 → (slot_at k p ≡ k) × (column_at p ≡ p)
place_low k p h = (rw (lt-ltb p 8 h) refl, rw (lt-ltb p 8 h) refl)

-- the slot and column of a place in the upper half
place_high : (k p : ℕ) → 8 ≤ p → (slot_at k p ≡ k + 128) × (column_at p ≡ p - 8)
place_high k p h = (rw (le-ltb p 8 h) refl, rw (le-ltb p 8 h) refl)

-- a place of the key has a number
abbrev HasNumber : MapValue → ℕ → Place → Type 0
HasNumber m k q = (n : ℕ) × (n < place_count m) × (slot_at k n ≡ q.slot) × (column_at n ≡ q.column)

-- each place of a key has a number
number : (m : MapValue) (k : ℕ) (q : Place) → IsPlaceOf m k q → HasNumber m k q
number m k q is =
    let lt : q.column < 8 = is.0 in
    elim is.1 [
      | inl s ↦
          let p = place_low k q.column lt in
          (q.column, omega (arith, count_least m _ refl, lt), p.0 ∙ sym s, p.1)
      | inr s ↦
          let p = place_high k (q.column + 8) (omega arith) in
          let back : (q.column + 8) - 8 ≡ q.column = omega arith in
          (q.column + 8, omega (arith, count_if m true (upper-is_live m s.0), lt), p.0 ∙ sym s.1, p.1 ∙ back)
    ]

-- a place in the upper half is there only where that half is live, by the test
live_if : (m : MapValue) (p : ℕ) (t : Bool) → is_upper_live m ≡ t → p < place_count m → 8 ≤ p → IsUpperLive m × (p < 16)
live_if m p true e lt le = let c : place_count m ≡ 16 = count_if m true e in (live-upper m e, omega (arith, c, lt))
live_if m p false e lt le = let c : place_count m ≡ 8 = count_if m false e in absurd (omega (arith, c, lt, le))

-- each number below the count is a place of the key
is_place : (m : MapValue) (k p : ℕ) → p < place_count m → IsPlaceOf m k (place_at k p)
is_place m k p lt =
    elim (cases_lt p 8) [
      | inl l ↦ let c = place_low k p l in (omega (arith, c.1, l), inl c.0)
      | inr l ↦
          let c = place_high k p l in
          let u = live_if m p (is_upper_live m) refl lt l in
          (omega (arith, c.1, l, u.1), inr (u.0, c.0))
    ]

-- lesser numbers come first
not_after : (k p q : ℕ) → p ≤ q → k < 128 → NotAfter (place_at k p) (place_at k q)
not_after k p q le lt = search (rules, cases_lt, place_low, place_high)

-- the first number that passes is at most each that does
at_least : (test : ℕ → Bool) (p n : ℕ) → ((j : ℕ) → j < p → test j ≡ false) → test n ≡ true → p ≤ n
at_least test p n none e =
    elim (cases_lt n p) [ inl s ↦ absurd (true≢false (sym e ∙ none n s)) | inr s ↦ s ]

-- the first place of a kind is the first of the key's places with a cell of it
first-of : (m : MapValue) (x : Kind) (P : Cell → Type 0) (k p : ℕ) → k < 128
    → ((y : Cell) → is_of_kind x y ≡ true → P y)
    → ((y : Cell) → P y → is_of_kind x y ≡ true) → first_place m x k ≡ Some p → IsFirstOf m k P (place_at k p)
first-of m x P k p lt is has e =
    let s : IsFirstBelow (λ q. is_of_kind x (cell_of m k q)) (place_count m) p = first_place-some m x k p e in (
      is_place m k p s.0,
      is (cell_of m k p) s.1,
      λ q place holds.
          let n : HasNumber m k q = number m k q place in
          let here : cell_of m k n.0 ≡ cell_at m q.slot q.column =
          ap (λ t. cell_at m t (column_at n.0)) n.2 ∙ ap (λ t. cell_at m q.slot t) n.3 in
          let fit : is_of_kind x (cell_of m k n.0)
          ≡ true = ap (λ y. is_of_kind x y) here ∙ has (cell_at m q.slot q.column) holds in
          let le : p ≤ n.0 = at_least (λ q. is_of_kind x (cell_of m k q)) p n.0 s.2 fit in
          let after : NotAfter (place_at k p) (place_at k n.0) = not_after k p n.0 le lt in
          let P1 : NotAfter (place_at k p) (record { slot = q.slot; column = column_at n.0 }) =
          subst (λ t. NotAfter (place_at k p) (record { slot = t; column = column_at n.0 })) n.2 after in
          subst (λ t. NotAfter (place_at k p) (record { slot = q.slot; column = t })) n.3 P1,
    )

-- a holding action passes the test for one
holding-fits : (y : Cell) → IsHoldingCell y → is_any_holding y ≡ true
holding-fits y s = ap is_any_holding s.1 ∙ holding-any s.0

-- a character passes the test for one
character-fits : (y : Cell) → IsCharacterCell y → is_character y ≡ true
character-fits y s = ap is_character s.1

-- a finding of the key, if there is one
abbrev AreOf : MapValue → ℕ → List Finding → Type 0
AreOf m k [] = Unit {0}
AreOf m k (f ∷ fs) = (f.key ≡ k) × IsFinding m f × (fs ≡ [])

-- the finding at the first places of a holding action and a character
finding-held : (m : MapValue) (k p q : ℕ) (o : Option Holding) → k < 128 → first_place m kind.AnyHolding k ≡ Some p
    → first_place m kind.Character k ≡ Some q → held_by (cell_of m k p) ≡ o → AreOf m k (finding_with k p q o)
finding-held m k p q None lt e f h = tt
finding-held m k p q (Some a) lt e f h =
    let s = first_place-some m kind.AnyHolding k p e in
    let b : IsHeldBy (cell_of m k p) = holding-cell (cell_of m k p) s.1 in
    let same : b.0 ≡ a = same_Some b.0 a (sym b.2 ∙ h) in (
      refl,
      record {
        key = lt;
        holding = b.1 ∙ ap (λ x. Act (holding_action x)) same;
        first_holding =
            first-of m kind.AnyHolding IsHoldingCell k p lt (λ y t. let c : IsHeldBy y = holding-cell y t in (c.0, c.1))
            holding-fits e;
        first_character = first-of m kind.Character IsCharacterCell k q lt character-cell character-fits f;
      },
      refl,
    )

-- what is found of a key is its findings, by the places
finding-of : (m : MapValue) (k : ℕ) (o i : Option ℕ) → k < 128 → first_place m kind.AnyHolding k ≡ o
    → first_place m kind.Character k ≡ i → AreOf m k (finding_by m k o i)
finding-of m k None i lt e f = tt
finding-of m k (Some p) None lt e f = tt
finding-of m k (Some p) (Some q) lt e f = finding-held m k p q (held_by (cell_of m k p)) lt e f refl

-- what is found of a key is its findings
all-of : (m : MapValue) (k : ℕ) → k < 128 → AreOf m k (findings_at m k)
all-of m k lt = finding-of m k (first_place m kind.AnyHolding k) (first_place m kind.Character k) lt refl refl

-- The findings of the keys below n.
record AreBelow (m : MapValue) (n : ℕ) (fs : List Finding) : Type 0 where
  each : All (IsFinding m) fs
  below : All (λ f. f.key < n) fs
  in_order : AllPairs (λ f g. f.key < g.key) fs
  complete : (k : ℕ) → k < n → IsUnsafeKey m k → Any (λ f. f.key ≡ k) fs

none-below : (m : MapValue) → AreBelow m 0 []
none-below m = search (rules, All-nil)

-- keys below n are below n + 1
still-below : (n : ℕ) (fs : List Finding) → All (λ f. f.key < n) fs → All (λ f. f.key < suc n) fs
still-below n fs h = λ i d lt. let l = h i d lt in omega (arith, l)

-- a finding of the key stays one
any-left : (k : ℕ) (fs : List Finding) (f : Finding) → Any (λ g. g.key ≡ k) fs → Any (λ g. g.key ≡ k) (fs ++ f ∷ [])
any-left k fs f (i, g, lt, at, is) = (i, g, grind (arith, common_steps), grind (arith, common_steps), is)

-- the next key has no finding
quiet-more : (m : MapValue) (n : ℕ) (fs : List Finding) → AreBelow m n fs → (IsUnsafeKey m n → ⊥)
    → AreBelow m (suc n) fs
quiet-more m n fs b safe = record {
  each = b.each;
  below = still-below n fs b.below;
  in_order = b.in_order;
  complete = λ k lt is. elim (below-suc k n lt) [
    | inl l ↦ b.complete k l is
    | inr q ↦ absurd (safe (subst (λ j. IsUnsafeKey m j) q is))
  ];
}

-- the next key has a finding
finding-more : (m : MapValue) (n : ℕ) (fs : List Finding) (f : Finding) → AreBelow m n fs → f.key ≡ n → IsFinding m f
    → AreBelow m (suc n) (fs ++ f ∷ [])
finding-more m n fs f b key is = record {
  each = All-push (IsFinding m) fs f b.each is;
  below = All-push (λ f. f.key < suc n) fs f (still-below n fs b.below) (omega (arith, key));
  in_order =
      all_pairs_push (λ f g. f.key < g.key) fs f b.in_order (λ i d lt. let l = b.below i d lt in omega (arith, l, key));
  complete = λ k lt unsafe. elim (below-suc k n lt) [
    | inl l ↦ any-left k fs f (b.complete k l unsafe)
    | inr q ↦ Any-push (λ g. g.key ≡ k) fs f (key ∙ sym q)
  ];
}

key-more : (m : MapValue) (n : ℕ) (fs gs : List Finding) → AreBelow m n fs → findings_at m n ≡ gs → AreOf m n gs
    → AreBelow m (suc n) (fs ++ gs)
key-more m n fs [] b e of =
    subst (AreBelow m (suc n)) (sym (append-nil fs)) (quiet-more m n fs b (λ is.
    true≢false (sym ((unsafe-key m n).1 is) ∙ ap has_some e)))
key-more m n fs (f ∷ gs) b e of =
    subst (λ gs. AreBelow m (suc n) (fs ++ f ∷ gs)) (sym of.2) (finding-more m n fs f b of.0 of.1)

all-below : (m : MapValue) (n : ℕ) → n ≤ 128 → AreBelow m n (gathered (findings_at m) n)
unfolding gathered
all-below m zero le = none-below m
all-below m (suc n) le =
    key-more m n (gathered (findings_at m) n) (findings_at m n) (all-below m n (omega (arith, le))) refl
    (all-of m n (omega (arith, le)))

-- the findings that are computed are one for each unsafe key, in order, at its first places
pub findings_are_computed : FindingsAreComputed
findings_are_computed m =
    let all = all-below m 128 (omega arith) in
    record { each = all.each; in_order = all.in_order; complete = λ k lt is. all.complete k lt is }
