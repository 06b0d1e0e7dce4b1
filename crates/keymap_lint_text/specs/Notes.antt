-- What notes tell: of modifiers that stay on, and where a definition begins.
use Rattle.std.specs.Prelude.{ℕ, List, [], ◌∷◌, ◌++◌, codes, decimal, length, ◌==◌, if◌then◌else◌}
use Rattle.std.specs.List.{flat_map}
use Rattle.keymap_core.specs.Actions.{holding_action, name_of}
use Rattle.keymap_core.specs.declared.action.Modifier.{Modifier}
use Rattle.keymap_core.specs.declared.action.Holding.TheVariants as holding
use Rattle.console_core.specs.declared.event.Event.{Event}
use Rattle.console_core.specs.declared.event.Event.TheVariants.{Press, Release, Reset, Load}
use Rattle.keymap_places.specs.declared.placed.Defined.{Defined}
use Rattle.messages.specs.Filled.{filled}
use Rattle.keymap_lint_text.specs.Wanted.{defined_text}

abbrev pub modifier_name : Modifier → List ℕ
modifier_name m = name_of (holding_action (holding.Mod m))

abbrev pub further_modifier : Modifier → List ℕ
further_modifier m = codes " and " ++ modifier_name m

-- the names of modifiers, as `lshift and lctrl`
abbrev pub modifiers_text : List Modifier → List ℕ
modifiers_text [] = []
modifiers_text (m ∷ ms) = modifier_name m ++ flat_map further_modifier ms

-- an event as it stands in a script
abbrev pub event_text : Event → List ℕ
event_text (Press key) = codes "down " ++ decimal key
event_text (Release key) = codes "up " ++ decimal key
event_text Reset = codes "reset"
event_text Load = codes "load"

abbrev pub further_event : Event → List ℕ
further_event e = codes ", " ++ event_text e

-- events, as `down 42, up 42`
abbrev pub events_text : List Event → List ℕ
events_text [] = []
events_text (e ∷ es) = event_text e ++ flat_map further_event es

-- the answers of the search: the modifiers that stay on, and the events after which they do; or that it is undecided
unfoldable pub sticks_text : List Modifier → List Event → List ℕ
sticks_text stuck events =
    modifiers_text stuck ++ codes " " ++ (if length stuck == 1 then codes "stays" else codes "stay")
    ++ codes " on with no key pressed, after: " ++ events_text events

abbrev pub undecided_text : List ℕ
undecided_text = codes "whether a modifier can stay on is undecided: more than 65536 states"

-- where a definition begins that a fault stands in
unfoldable pub begins_text : Defined → List ℕ
begins_text what = filled (codes "{} is defined from here on") (defined_text what ∷ [])
