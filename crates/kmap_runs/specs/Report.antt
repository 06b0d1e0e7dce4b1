-- The report of the check, as text. What is told stands at the places `{}` of its words.
use Rattle.std.specs.Prelude.{ℕ, Bool, true, false, List, [], ◌∷◌, ◌++◌, codes, decimal, Option, None, Some}
use Rattle.std.specs.Prelude.{if◌then◌else◌}
use Rattle.std.specs.List.{flat_map}
use Rattle.keymap_core.specs.declared.action.Holding.{Holding}
use Rattle.keymap_core.specs.declared.action.Holding.TheVariants as holding
use Rattle.keymap_core.specs.Actions.{holding_action, holdings, name_of}
use Rattle.keymap_core.specs.Maps.{MapValue}
use Rattle.console_core.specs.declared.event.Event.{Event}
use Rattle.keymap_check.specs.declared.bearer.Bearer.{Bearer}
use Rattle.keymap_check.specs.declared.bearer.Bearer.TheVariants.{Nobody, Throughout, Sole, Several}
use Rattle.keymap_check.specs.declared.finding.Finding.{Finding}
use Rattle.keymap_check.specs.Report.{ReportValue, report_of, bearer_in, is_steady_in}
use Rattle.keymap_check.specs.Said.{finding_words}
use Rattle.keymap_check.specs.Scripts.{demonstration_of}
use Rattle.keymap_names.specs.Shown.{shown_name}
use Rattle.play_core.specs.Spelling.{event_line}
use Rattle.messages.specs.Filled.{filled}

abbrev pub holding_name : Holding → List ℕ
holding_name a = name_of (holding_action a)

-- the name of a file, as it is shown, and whether its keymap is accepted
abbrev pub brief_line : List ℕ → Bool → List ℕ
brief_line file is_accepted =
    filled (codes "{}: {}")
    (shown_name file ∷ (if is_accepted then codes "accepted\n" else codes "refused\n") ∷ [])

abbrev pub verdict_line : List Finding → List ℕ
verdict_line [] = codes "accepted\n"
verdict_line (f ∷ fs) = codes "refused\n"

-- a key that bears a holding action and has a character
abbrev pub finding_line : Finding → List ℕ
finding_line f = finding_words f ++ codes "\n"

-- only a lock can be steady
abbrev pub is_reported_steady : ReportValue → Holding → Bool
is_reported_steady r (holding.Mod m) = false
is_reported_steady r (holding.Lock l) = is_steady_in r l

abbrev pub steady_text : Bool → List ℕ
steady_text is_steady = if is_steady then codes " steady" else []

abbrev pub bearer_line : Bearer → List ℕ → List ℕ → List ℕ
bearer_line Nobody name steady = filled (codes "{} nobody{}\n") (name ∷ steady ∷ [])
bearer_line (Throughout k) name steady = filled (codes "{} throughout {}{}\n") (name ∷ decimal k ∷ steady ∷ [])
bearer_line (Sole k) name steady = filled (codes "{} sole {}{}\n") (name ∷ decimal k ∷ steady ∷ [])
bearer_line Several name steady = filled (codes "{} several{}\n") (name ∷ steady ∷ [])

abbrev pub holding_line : ReportValue → Holding → List ℕ
holding_line r a = bearer_line (bearer_in r a) (holding_name a) (steady_text (is_reported_steady r a))

abbrev pub check_text : ReportValue → List ℕ
check_text r = verdict_line r.findings ++ flat_map finding_line r.findings ++ flat_map (holding_line r) holdings

abbrev pub demonstration_text : Option (List Event) → List ℕ
demonstration_text None = codes "demonstration: none\n"
demonstration_text (Some events) = codes "demonstration:\n" ++ flat_map event_line events

-- the demonstration comes only where it is asked for
abbrev pub shown_text : Bool → MapValue → List ℕ
shown_text true m = demonstration_text (demonstration_of m)
shown_text false m = []

-- the whole report on a map
abbrev pub report : MapValue → Bool → List ℕ
report m show = check_text (report_of m) ++ shown_text show m
