-- What a console does, as statements on the list of the events that were delivered to it. The list has the newest event
-- first: in `e ∷ h` the events before e are h.
use Rattle.std.specs.Prelude.{◌≡◌, ℕ, ◌<◌, ◌==◌, Bool, false, true, List, [], ◌∷◌, All, Option, Some, if◌then◌else◌}
use Rattle.std.specs.List.{list_any}
use Rattle.console_core.specs.Types.{Modifier, Lock, Event, Press, Release, Reset, Load, Answer}
use Rattle.keymap_core.specs.Maps.{MapValue}
use Rattle.keymap_core.specs.Numbers.{key_count}
use Rattle.keymap_core.specs.Actions.{modifiers}
use Rattle.console_core.specs.Positions.{last_where, count_where, is_odd}
use Rattle.console_core.specs.Resolved.{ResolvedEvent, resolve, on, locked, pending, answer_resolved}

-- The two maps of a console.
pub record Maps : Type 0 where
  pub first : MapValue
  pub second : MapValue

abbrev pub between : MapValue → MapValue → Maps
between m n = record { first = m; second = n }

-- The events are about keys 0 to 127.
abbrev pub HasKey : Event → Type 0
HasKey (Press k) = k < key_count
HasKey (Release k) = k < key_count
HasKey Reset = Unit {0}
HasKey Load = Unit {0}

abbrev pub HasKeys : List Event → Type 0
HasKeys h = All HasKey h

-- The map in force: each load exchanges the two, and the first one is in force before any.
abbrev pub is_load : Event → List Event → Bool
is_load Load before = true
is_load _ before = false

abbrev pub is_second_in_force : List Event → Bool
is_second_in_force h = is_odd (count_where is_load h)

abbrev pub in_force : Maps → List Event → MapValue
in_force ms h = if is_second_in_force h then ms.second else ms.first

-- the map that a load after h puts in force
abbrev pub loaded : Maps → List Event → MapValue
loaded ms h = in_force ms (Load ∷ h)

abbrev pub IsNoLoad : Event → Type 0
IsNoLoad e = is_load e [] ≡ false

abbrev pub HasNoLoads : List Event → Type 0
HasNoLoads h = All IsNoLoad h

-- Pressed: the last event that is about the key, or is a reset or a load, is a press of the key.
abbrev pub concerns : ℕ → Event → Bool
concerns k (Press j) = j == k
concerns k (Release j) = j == k
concerns k Reset = true
concerns k Load = true

abbrev pub is_press : Option Event → Bool
is_press (Some (Press j)) = true
is_press _ = false

unfoldable pub pressed : ℕ → List Event → Bool
pressed k h = is_press (last_where (concerns k) h)

-- Quiet: no key is pressed.
abbrev pub IsQuiet : List Event → Type 0
IsQuiet h = (k : ℕ) → k < key_count → pressed k h ≡ false

-- The events with what each looked up at its prefix, resolved in their order.
unfoldable pub resolved : Maps → List Event → List ResolvedEvent
resolved ms [] = []
resolved ms (e ∷ h) = resolve (in_force ms h) (loaded ms h) (resolved ms h) e ∷ resolved ms h

-- the event e after h
abbrev pub resolved_event : Maps → List Event → Event → ResolvedEvent
resolved_event ms h e = resolve (in_force ms h) (loaded ms h) (resolved ms h) e

-- Which modifiers and locks are on after h, which accent is pending, and the answer to the event e after h.
abbrev pub is_on_after : Maps → Modifier → List Event → Bool
is_on_after ms i h = on i (resolved ms h)

-- some modifier is on after h
abbrev pub is_any_on_after : Maps → List Event → Bool
is_any_on_after ms h = list_any (λ i. is_on_after ms i h) modifiers

abbrev pub is_locked_after : Maps → Lock → List Event → Bool
is_locked_after ms l h = locked l (resolved ms h)

abbrev pub accent_pending_after : Maps → List Event → Option ℕ
accent_pending_after ms h = pending (in_force ms h) (resolved ms h)

abbrev pub answer_to : Maps → List Event → Event → Answer
answer_to ms h e = answer_resolved (in_force ms h) (resolved_event ms h e) (resolved ms h)

-- the answers to a list of events in the order of their delivery, after h
abbrev pub answers_to : Maps → List Event → List Event → List Answer
answers_to ms h [] = []
answers_to ms h (e ∷ later) = answer_to ms h e ∷ answers_to ms (e ∷ h) later
