-- Facts on which the main theorem stands.
use Rattle.std.specs.Prelude.{◌≡◌, ℕ, ◌==◌, Bool, true, false, List, ◌∷◌, ◌++◌, Some}
use Rattle.console_core.specs.Types.{Modifier, Holding, Event, Press, Release, Reset, Load}
use Rattle.keymap_core.specs.declared.action.Holding.TheVariants as holding
use Rattle.keymap_core.specs.Actions.{holding_action}
use Rattle.keymap_core.specs.Bearers.{StandsIn, IsUpperLive, IsCellOf}
use Rattle.console_core.specs.Columns.{is_upper}
use Rattle.console_core.specs.History.{Maps, in_force, is_on_after, is_locked_after, pressed, HasKeys}
use Rattle.console_core.specs.Reading.{look_after, remembered_after, raises_at, NoneOf}
use Rattle.console_core.specs.Headline.{IsSafe}

-- What a key looks up is one of its cells.
abbrev pub LooksAreCells : Type 0
LooksAreCells = (ms : Maps) (h : List Event) → HasKeys h → (k : ℕ) → IsCellOf (in_force ms h) k (look_after ms k h)

-- A dead upper half is never looked at: where no cell of the slots 0 to 127 is ashift or alock, neither is on, or both
-- are, and what a key looks up stands in its lower slot.
abbrev pub DeadUpperHalfIsNotLookedAt : Type 0
DeadUpperHalfIsNotLookedAt =
    (ms : Maps) (h : List Event) → HasKeys h → (IsUpperLive (in_force ms h) → ⊥)
    → (is_upper (λ i. is_on_after ms i h) (λ l. is_locked_after ms l h) ≡ false)
    × ((k : ℕ) → StandsIn (in_force ms h) k (look_after ms k h))

-- a release of the key, a reset or a load
abbrev pub lets_go : ℕ → Event → List Event → Bool
lets_go k (Press j) before = false
lets_go k (Release j) before = j == k
lets_go k Reset before = true
lets_go k Load before = true

-- In a safe map a holding action that is remembered for a key is forgotten only by a release of the key, a reset or a
-- load.
abbrev pub HoldingIsRemembered : Type 0
HoldingIsRemembered =
    (ms : Maps) (h : List Event) (e : Event) → IsSafe (in_force ms h) → HasKeys (e ∷ h)
    → (k : ℕ) (a : Holding) → remembered_after ms k h ≡ Some (holding_action a) → lets_go k e h ≡ false
    → remembered_after ms k (e ∷ h) ≡ Some (holding_action a)

-- In a safe map each modifier that is on was raised by a key that has been pressed ever since.
abbrev pub IsRaisedByPressed : Maps → Modifier → List Event → Type 0
IsRaisedByPressed ms i h =
    (k : ℕ) × (later : List Event) × (before : List Event) × (pressed k h ≡ true) × (h ≡ later ++ Press k ∷ before)
    × (raises_at ms (holding.Mod i) (Press k) before ≡ true) × NoneOf (lets_go k) later (Press k ∷ before)

abbrev pub OnByPressedKey : Type 0
OnByPressedKey =
    (ms : Maps) (h : List Event) → IsSafe (in_force ms h) → HasKeys h → (i : Modifier) → is_on_after ms i h ≡ true
    → IsRaisedByPressed ms i h
