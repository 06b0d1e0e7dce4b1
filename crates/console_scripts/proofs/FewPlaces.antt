-- The states that few presses lead to, and that the upper half is looked at only where it is live.
use Rattle.std.proofs.Common.{rules}
use Rattle.console_scripts.specs.Types.{Tap}
use Rattle.console_scripts.proofs.Common.{◌≡◌, ◌<◌, ◌+◌, ◌∷◌, [], ◌∙◌, ℕ, Bool, true, false, List, None, refl, ap, sym}
use Rattle.console_scripts.proofs.Common.{subst, inl, inr, cases_Bool, true≢false, arith, ◌⊎◌, MapValue, State, Move}
use Rattle.console_scripts.proofs.Common.{Hold, Turn, LetGo, Exchange, alone, IsPath, state_after}
use Rattle.console_scripts.proofs.Common.{look_in, look_selected, selection_of, key_count, is_held, IsHome, Meta}
use Rattle.console_scripts.proofs.Common.{AltShift, Alt, ComesHome, one_map}
use Rattle.console_scripts.proofs.Common.{cell_at, slot_of, none-some, Cell}
use Rattle.console_states.specs.Returning.{IsUnlocked}
use Rattle.console_states.specs.Searching.{IsLedTo}
use Rattle.std.specs.Prelude.{◌*◌}
use Rattle.keymap_core.specs.Bearers.{IsUpperLive, StandsIn}
use Rattle.keymap_core.specs.Borne.{is_upper_live}
use Rattle.keymap_core.proofs.Shared.{upper-is_live}
use Rattle.console_core.proofs.Shared.{column_of-lt}
use Rattle.console_states.specs.Sights.{column_in}
use Rattle.console_states.specs.declared.selection.Selection.{Selection}
use Rattle.console_scripts.proofs.Aiming.{lets-go}
use Rattle.console_scripts.proofs.Marking.{looked-place}
use Rattle.console_scripts.specs.Inner.Places.{ArePlaces, CanLookUp, Gains, IsLookedUp, IsMarked}
use Rattle.console_scripts.specs.Inner.Places.{cell_of_place, gives_cell, live_count}

-- where no lock is on, letting go of all leads home
pub comes-free : (m : MapValue) (s : State) → IsUnlocked s → ComesHome (alone m) s
comes-free m s off =
    let (path, is, leads) = lets-go m s in (path, is, subst IsHome (sym leads) ((λ i. refl), off))

-- ---- the upper half

upper-off : (s : State) → s.holder AltShift ≡ None → s.is_locked Alt ≡ false → (selection_of s).upper ≡ false
upper-off s held locked = rw (held, locked) refl

-- a key looks up a cell of its own slot then
own-slot : (m : MapValue) (y : Selection) (k : ℕ) (x : Cell) → y.upper ≡ false → look_selected m y k ≡ x
    → StandsIn m k x
own-slot m y k x off e =
    (column_in m y k, column_of-lt _ _ _, ap (λ u. cell_at m (slot_of k u) (column_in m y k)) (sym off) ∙ e)

looks-own : (m : MapValue) (s : State) (k : ℕ) (x : Cell) → s.holder AltShift ≡ None → s.is_locked Alt ≡ false
    → look_in (alone m) s k ≡ x
    → StandsIn m k x
looks-own m s k x held locked e = search (rules, own-slot, upper-off, one_map)

-- While it isn't live, no path turns it on.
never-upper : (m : MapValue) → (IsUpperLive m → ⊥) → (path : List Move) → IsPath (alone m) path
    → ((state_after (alone m) path).holder AltShift ≡ None) × ((state_after (alone m) path).is_locked Alt ≡ false)
never-upper m dead [] is = (refl, refl)
never-upper m dead (Hold k AltShift ∷ path) (((lt, idle, (looks, may)), free), is) =
    let (held, locked) = never-upper m dead path is in
    absurd (dead (k, lt, inl (looks-own m (state_after (alone m) path) k _ held locked looks)))
never-upper m dead (Hold k i ∷ path) (move, is) = never-upper m dead path is
never-upper m dead (Turn k Alt ∷ path) (((lt, idle, (looks, may)), other), is) =
    let (held, locked) = never-upper m dead path is in
    absurd (dead (k, lt, inr (looks-own m (state_after (alone m) path) k _ held locked looks)))
never-upper m dead (Turn k l ∷ path) (move, is) = never-upper m dead path is
never-upper m dead (LetGo k AltShift ∷ path) (move, is) = (refl, (never-upper m dead path is).1)
never-upper m dead (LetGo k i ∷ path) (move, is) = never-upper m dead path is
never-upper m dead (Tap k ∷ path) (move, is) = absurd (none-some move.0 move.1)
never-upper m dead (Exchange ∷ path) (move, is) = absurd (true≢false (sym move.1))

low-place : (k c : ℕ) (u : Bool) → u ≡ false → k < 128 → c < 8 → slot_of k u * 8 + c < 1024
low-place k c false off lt small = omega (arith, lt, small)
low-place k c true off lt small = absurd (true≢false off)

-- what taps look up is live
pub looked-live : (m : MapValue) (plain : Bool) (p : ℕ) → CanLookUp m plain p → p < live_count m
looked-live m plain p (path, is, comes, (k, (below, idle, (place, gives), off))) =
    let s : State = state_after (alone m) path in
    let y = selection_of s in
    elim (cases_Bool (is_upper_live m)) [
      | inl live ↦ rw live (subst (λ z. z < 2048) place (looked-place m y k below).0)
      | inr dead ↦
          let (held, locked) =
          never-upper m (λ live. true≢false (sym (upper-is_live m live) ∙ dead)) path is in
          rw dead
          (subst (λ z. z < 1024) place
          (low-place k (column_in m y k) y.upper (upper-off s held locked) below (column_of-lt _ _ _)))
    ]

-- ---- a few places that are all

-- plain taps look them up, and nothing live is left of which something comes: so these are all that taps look up
pub few-all : (m : MapValue) (plain : Bool) (marks : List Bool) → ((p : ℕ) → IsMarked marks p → CanLookUp m true p)
    → ((p : ℕ) → p < live_count m → gives_cell (cell_of_place m p) ≡ true → IsMarked marks p)
    → ArePlaces m plain true marks
few-all m plain marks only all p = (
  (λ has.
      let (path, is, comes, (k, (below, idle, shows, off))) = only p has in
      (path, is, comes, (k, (below, idle, shows, (λ e. off refl))))),
  λ done can.
      let (path, is, comes, (k, (below, idle, (place, gives), off))) = can in
      let y = selection_of (state_after (alone m) path) in
      all p (looked-live m plain p can)
      (ap (λ z. gives_cell (cell_of_place m z)) (sym place) ∙ ap gives_cell (looked-place m y k below).1 ∙ gives),
)

-- what is looked up in a state that moves lead to, where no lock is on and meta isn't held
pub marked-plainly : (m : MapValue) (s : State) (old now : List Bool) → IsLedTo (alone m) s → IsUnlocked s
    → is_held s Meta ≡ false
    → Gains (IsMarked old) (IsMarked now) (λ p. (k : ℕ) × (k < key_count) × IsLookedUp m s k p)
    → (p : ℕ) → IsMarked now p → IsMarked old p ⊎ CanLookUp m true p
marked-plainly m s old now (path, is, leads) off meta more p has = search (rules, comes-free)
