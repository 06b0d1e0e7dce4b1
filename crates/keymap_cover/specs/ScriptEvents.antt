-- The events of a script as those of a console, and when they can be made at a keyboard. Lists have the newest event
-- first.
use Rattle.std.specs.Prelude.{◌≡◌, ◌==◌, ℕ, Bool, true, false, List, [], ◌∷◌, if◌then◌else◌}
use Rattle.console_core.specs.declared.event.Event.{Event}
use Rattle.console_core.specs.declared.event.Event.TheVariants as event
use Rattle.keymap_cover.specs.declared.script_event.ScriptEvent.{ScriptEvent}
use Rattle.keymap_cover.specs.declared.script_event.ScriptEvent.TheVariants.{Down, Repeat, Up, Reset}

abbrev pub event_of : ScriptEvent → Event
event_of (Down k) = event.Press k
event_of (Repeat k) = event.Press k
event_of (Up k) = event.Release k
event_of Reset = event.Reset

abbrev pub events_of : List ScriptEvent → List Event
events_of [] = []
events_of (x ∷ before) = event_of x ∷ events_of before

-- Whether the key is down. A reset of the console lifts no key.
abbrev pub is_down : ℕ → List ScriptEvent → Bool
is_down k [] = false
is_down k (Down j ∷ before) = if j == k then true else is_down k before
is_down k (Repeat j ∷ before) = if j == k then true else is_down k before
is_down k (Up j ∷ before) = if j == k then false else is_down k before
is_down k (Reset ∷ before) = is_down k before

-- A key goes down only while it isn't down, and is repeated and goes up only while it is.
abbrev pub CanFollow : List ScriptEvent → ScriptEvent → Type 0
CanFollow before (Down k) = is_down k before ≡ false
CanFollow before (Repeat k) = is_down k before ≡ true
CanFollow before (Up k) = is_down k before ≡ true
CanFollow before Reset = Unit {0}

abbrev pub ArePossible : List ScriptEvent → Type 0
ArePossible [] = Unit {0}
ArePossible (x ∷ before) = CanFollow before x × ArePossible before
