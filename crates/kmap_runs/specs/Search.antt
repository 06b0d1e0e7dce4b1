-- What the search for sticking modifiers found, as a script. What is told stands at the places `{}` of its words.
use Rattle.std.specs.Prelude.{ℕ, Bool, true, false, List, [], ◌∷◌, ◌++◌, codes, decimal}
use Rattle.std.specs.List.{flat_map}
use Rattle.keymap_core.specs.declared.action.Modifier.{Modifier}
use Rattle.keymap_core.specs.declared.action.Holding.TheVariants as holding
use Rattle.console_core.specs.declared.event.Event.{Event}
use Rattle.console_states.specs.declared.outcome.Sticking.{Sticking}
use Rattle.console_states.specs.declared.outcome.Sticking.TheVariants.{Sticks, Never, Undecided}
use Rattle.play_core.specs.Spelling.{event_line}
use Rattle.kmap_runs.specs.Report.{holding_name}
use Rattle.script_text.specs.Comments.{comment}

-- the name of a modifier, after a blank
abbrev pub modifier_name : Modifier → List ℕ
modifier_name i = codes " " ++ holding_name (holding.Mod i)

-- which modifiers are on after the events, and a line for each event
abbrev pub script_text : List Modifier → List Event → List ℕ
script_text on events = comment (codes " sticks:{}") (flat_map modifier_name on ∷ []) ++ flat_map event_line events

-- no list of up to so many presses leaves a modifier on, and more were not tried
abbrev pub undecided_text : ℕ → List ℕ
undecided_text p = comment (codes " undecided: no list of up to {} presses sticks") (decimal p ∷ [])

-- what is told of an answer of the search
abbrev pub found_text : Sticking → List ℕ
found_text (Sticks events on) = script_text on.items events.items
found_text Never = comment (codes " never sticks") []
found_text (Undecided p) = undecided_text p

abbrev pub is_never : Sticking → Bool
is_never (Sticks events on) = false
is_never Never = true
is_never (Undecided p) = false
