-- The places that are marked since taps look them up, key by key and state by state.
use Rattle.std.proofs.Common.{rules}
use Rattle.console_scripts.proofs.Common.{◌≡◌, ◌⊎◌, ◌<◌, ◌+◌, ◌++◌, ◌∷◌, [], ℕ, Bool, true, false, List, Some, inl, inr}
use Rattle.console_scripts.proofs.Common.{slice_get, subst, sym, ◌∙◌, ap, Contains, place_last}
use Rattle.console_scripts.proofs.Common.{same_Some, length, ◌≤◌, MapValue, Explored, State, Meta}
use Rattle.console_scripts.proofs.Common.{start, is_held, Entry, map_of_explored, state_of, key_count, HasRoute, arith}
use Rattle.console_scripts.proofs.Common.{IsExploredFrom, Contains-push_cases, slice_get_within, IsIdle, selection_of}
use Rattle.console_scripts.proofs.Common.{look_selected, slot_of, cell_at}
use Rattle.std.specs.Prelude.{◌↔◌, ◌/◌, ◌%◌, ◌*◌, set}
use Rattle.console_core.proofs.Shared.{column_of-lt}
use Rattle.console_states.specs.Sights.{slot_in, column_in}
use Rattle.std.proofs.lemmas.Bool.{cases_eq}
use Rattle.std.proofs.lemmas.List.{get_or-set_same, get_or-set_other}
use Rattle.console_states.specs.declared.selection.Selection.{Selection}
use Rattle.console_scripts.proofs.Choosing.{explored-returns}
use Rattle.console_scripts.proofs.Exploring.{so-can, so-met, start-returns}
use Rattle.console_scripts.specs.Inner.Places.{ArePlaces, Gains, IsGathered, IsLookedUp, IsMarked, IsSelected}
use Rattle.console_scripts.specs.Inner.Places.{IsTapOn, IsTapOnAt, IsWithKey, IsWithKeys, Shows, cell_of_place}
use Rattle.console_scripts.specs.Inner.Places.{gives_cell, place_count, place_in}

-- ---- more in a set

pub gains-none : {K : Type 0} (A P : K → Type 0) → ((x : K) → P x → ⊥) → Gains A A P
gains-none A P none x = search rules

pub gains-same : {K : Type 0} (A B P Q : K → Type 0) → ((x : K) → P x ↔ Q x) → Gains A B P → Gains A B Q
gains-same A B P Q same more x = search rules

pub gains-next : {K : Type 0} (A B C P Q : K → Type 0) → Gains A B P → Gains B C Q → Gains A C (λ x. P x ⊎ Q x)
gains-next A B C P Q first next x = search rules

-- one more step of a loop, whose number is below
pub gains-more : {K : Type 0} (A B C : K → Type 0) (P : ℕ → K → Type 0) (n : ℕ)
    → Gains A B (λ x. (k : ℕ) × (k < n) × P k x) → Gains B C (P n)
    → Gains A C (λ x. (k : ℕ) × (k < n + 1) × P k x)
gains-more A B C P n first next = search (rules, gains-same, place_last, gains-next)

-- nothing at first, and the whole in the end
pub gains-first : {K : Type 0} (A : K → Type 0) (P : ℕ → K → Type 0) → ((x : K) → A x → ⊥)
    → Gains (λ x. ⊥) A (λ x. (k : ℕ) × (k < 0) × P k x)
gains-first A P lacks x = search rules

pub gains-whole : {K : Type 0} (A P : K → Type 0) → Gains (λ x. ⊥) A P → (x : K) → A x ↔ P x
gains-whole A P more x = search rules

-- one more mark
pub gains-mark : (marks : List Bool) (p : ℕ) → p < length marks
    → Gains (IsMarked marks) (IsMarked (set marks p true)) (λ q. q ≡ p)
gains-mark marks p lt q = search (rules, cases_eq, get_or-set_same, get_or-set_other)

-- ---- places

-- the place of what a key looks up
split-place : (s c : ℕ) → c < 8 → ((s * 8 + c) / 8 ≡ s) × ((s * 8 + c) % 8 ≡ c)
split-place s c lt = (omega (arith, lt), omega (arith, lt))

slot-lt : (k : ℕ) (u : Bool) → k < 128 → slot_of k u < 256
slot-lt k true lt = omega (arith, lt)
slot-lt k false lt = omega (arith, lt)

pub looked-place : (m : MapValue) (y : Selection) (k : ℕ) → k < key_count
    → (place_in m y k < place_count) × (cell_of_place m (place_in m y k) ≡ look_selected m y k)
looked-place m y k lt =
    let s = slot_in y k in
    let c = column_in m y k in
    let small : c < 8 = column_of-lt _ _ _ in
    let slot : s < 256 = slot-lt k y.upper lt in
    let (e, f) = split-place s c small in
    (omega (arith, small, slot), ap (λ z. cell_at m z ((s * 8 + c) % 8)) e ∙ ap (λ z. cell_at m s z) f)

-- ---- what a key looks up

pub key-none : (m : MapValue) (s : State) (k : ℕ) (were : Bool) (t : List Bool)
    → gives_cell (look_selected m (selection_of s) k) ≡ false
    → IsWithKey m s k were t t were
key-none m s k were t none = search (rules, gains-none)

pub key-known : (m : MapValue) (s : State) (k : ℕ) (were : Bool) (t : List Bool)
    → IsMarked t (place_in m (selection_of s) k)
    → IsWithKey m s k were t t were
key-known m s k were t marked = search rules

pub key-busy : (m : MapValue) (s : State) (k : ℕ) (were : Bool) (t : List Bool) → (IsIdle s k → ⊥)
    → IsWithKey m s k were t t false
key-busy m s k were t busy = search (rules, gains-none)

pub key-idle : (m : MapValue) (s : State) (k : ℕ) (were : Bool) (t u : List Bool)
    → gives_cell (look_selected m (selection_of s) k) ≡ true → IsIdle s k
    → Gains (IsMarked t) (IsMarked u) (λ p. p ≡ place_in m (selection_of s) k)
    → IsWithKey m s k were t u were
key-idle m s k were t u gives idle more = search (rules, gains-same)

pub keys-more : (m : MapValue) (s : State) (n : ℕ) (t u v : List Bool) (were are : Bool) → IsWithKeys m s n t u were
    → IsWithKey m s n were u v are
    → IsWithKeys m s (n + 1) t v are
keys-more m s n t u v were are before now = record {
  gains =
      gains-more (IsMarked t) (IsMarked u) (IsMarked v) (λ k x. IsLookedUp m s k x) n before.gains now.gains;
  all = λ is x k lt looks.
      let (was, there) = now.all is in
      elim (place_last k n lt) [
        | inl below ↦ (now.gains x).1 (inl (before.all was x k below looks))
        | inr f ↦ there x (subst (λ i. Shows m (selection_of s) i x) f looks)
      ];
}

pub keys-none : (m : MapValue) (s : State) (t : List Bool) (are : Bool) → IsWithKeys m s 0 t t are
keys-none m s t are = search (rules, gains-none)

-- ---- what is gathered place by place

-- a tap at the place is of its state
pub taps-there : (e : Explored) (plain : Bool) (p j k : ℕ) (y : Entry) → slice_get e.met.entries j ≡ Some y
    → IsTapOnAt e plain p j k
    → HasRoute e.routes.entries (state_of y.0) × IsTapOn (map_of_explored e) (state_of y.0) plain p k
taps-there e plain p j k y at (z, there, has, tap) = search (rules, same_Some)

-- nothing more at the place
pub gathered-next : (e : Explored) (plain : Bool) (n : ℕ) (t : List Bool) (selections : List Selection)
    → IsGathered e plain n t selections → ((x : ℕ) (k : ℕ) → IsTapOnAt e plain x n k → IsMarked t x)
    → IsGathered e plain (n + 1) t selections
gathered-next e plain n t selections g here = record {
  only = g.only;
  all = λ x j k lt tap. elim (place_last j n lt) [
    | inl below ↦ g.all x j k below tap
    | inr f ↦ here x k (subst (λ i. IsTapOnAt e plain x i k) f tap)
  ];
  known = g.known;
}

-- no place has a tap that isn't there where all of its selection are
pub gathered-known : (e : Explored) (plain : Bool) (n : ℕ) (t : List Bool) (selections : List Selection) (y : Entry)
    → slice_get e.met.entries n ≡ Some y → Contains selections (selection_of (state_of y.0))
    → IsGathered e plain n t selections
    → IsGathered e plain (n + 1) t selections
gathered-known e plain n t selections y at has g =
    gathered-next e plain n t selections g
    (λ x k tap.
    let (route, (lt, idle, looks, off)) = taps-there e plain x n k y at tap in
    g.known _ has x (k, lt, looks))

-- nor where no route begins, or where meta is on and the taps are to be plain
pub gathered-none : (e : Explored) (plain : Bool) (n : ℕ) (t : List Bool) (selections : List Selection) (y : Entry)
    → slice_get e.met.entries n ≡ Some y
    → (HasRoute e.routes.entries (state_of y.0) → (plain ≡ true → is_held (state_of y.0) Meta ≡ false) → ⊥)
    → IsGathered e plain n t selections
    → IsGathered e plain (n + 1) t selections
gathered-none e plain n t selections y at none g = search (rules, gathered-next, taps-there)

-- what keys look up in the state of the place
pub gathered-there : (e : Explored) (plain : Bool) (n : ℕ) (t u : List Bool) (selections : List Selection) (y : Entry)
    → slice_get e.met.entries n ≡ Some y → HasRoute e.routes.entries (state_of y.0)
    → (plain ≡ true → is_held (state_of y.0) Meta ≡ false)
    → Gains (IsMarked t) (IsMarked u)
    (λ x. (k : ℕ) × (k < key_count) × IsLookedUp (map_of_explored e) (state_of y.0) k x)
    → IsGathered e plain n t selections
    → IsGathered e plain (n + 1) u selections
gathered-there e plain n t u selections y at route off more g = record {
  only = λ x has. elim ((more x).0 has) [
    | inl old ↦ g.only x old
    | inr there ↦
        let (k, lt, (idle, looks)) = there in
        (n, k, (y, at, route, (lt, idle, looks, off)))
  ];
  all = λ x j k lt tap. elim (place_last j n lt) [
    | inl below ↦ (more x).1 (inl (g.all x j k below tap))
    | inr f ↦
        let (has, (near, idle, looks, none)) =
        taps-there e plain x n k y at (subst (λ i. IsTapOnAt e plain x i k) f tap) in
        (more x).1 (inr (k, near, (idle, looks)))
  ];
  known = λ z has x sel. (more x).1 (inl (g.known z has x sel));
}

-- and all of its selection
pub gathered-selected : (e : Explored) (plain : Bool) (n : ℕ) (t : List Bool) (selections now : List Selection)
    (y : Selection)
    → now ≡ selections ++ y ∷ [] → ((x : ℕ) → IsSelected (map_of_explored e) y x → IsMarked t x)
    → IsGathered e plain n t selections
    → IsGathered e plain n t now
gathered-selected e plain n t selections now y is all g = record {
  only = g.only;
  all = g.all;
  known = λ z has x sel. elim (Contains-push_cases selections y z (subst (λ zs. Contains zs z) is has)) [
    | inl old ↦ g.known z old x sel
    | inr f ↦ all x (subst (λ w. IsSelected (map_of_explored e) w x) (sym f) sel)
  ];
}

pub gathered-first : (e : Explored) (plain : Bool) (t : List Bool) (selections : List Selection)
    → ((x : ℕ) → IsMarked t x → ⊥) → selections ≡ []
    → IsGathered e plain 0 t selections
gathered-first e plain t selections none empty = search rules

-- taps look these up, and where all states were met no others
pub gathered-all : (e : Explored) (plain : Bool) (n : ℕ) (t : List Bool) (selections : List Selection)
    → IsExploredFrom (map_of_explored e) start e → length e.met.entries ≤ n → IsGathered e plain n t selections
    → ArePlaces (map_of_explored e) plain e.is_complete t
gathered-all e plain n t selections v le g p =
    let m : MapValue = map_of_explored e in
    let st = explored-returns m start e v (start-returns m) in (
      (λ has.
          let (j, k, (y, at, route, tap)) = g.only p has in
          let (path, is, comes, there) = so-can e v.0 st (λ s. IsTapOn m s plain p k) j y at route tap in
          (path, is, comes, (k, there))),
      λ complete can.
          let (path, is, comes, (k, tap)) = can in
          let (j, y, at, route, there) =
          so-met e v.0 complete st (λ s. IsTapOn m s plain p k) path is comes tap in
          g.all p j k (let lt = slice_get_within e.met.entries j y at in omega (arith, lt, le)) (y, at, route, there),
    )
