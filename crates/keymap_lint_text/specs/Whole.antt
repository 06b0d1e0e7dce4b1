-- What is printed of a text under the name of its file.
use Rattle.std.specs.Prelude.{◌≡◌, ℕ, ◌&&◌, Bool, true, false, nat_lt, if◌then◌else◌, List, [], ◌∷◌}
use Rattle.std.specs.Prelude.{◌++◌, codes, length, take, Option, Some, None}
use Rattle.std.specs.List.{flat_map}
use Rattle.console_states.specs.declared.outcome.Sticking.{Sticking}
use Rattle.console_states.specs.declared.outcome.Sticking.TheVariants.{Sticks, Undecided}
use Rattle.keymap_lint.specs.declared.diagnostic.Diagnostic.{Diagnostic}
use Rattle.keymap_lint.specs.declared.diagnostic.Diagnostics.{Diagnostics}
use Rattle.keymap_lint.specs.declared.diagnostic.Lint.{Lint}
use Rattle.keymap_lint.specs.declared.diagnostic.Lint.TheVariants.{Faulty, Spelled}
use Rattle.keymap_lint.specs.declared.diagnostic.PlacedFault.{PlacedFault}
use Rattle.keymap_lint.specs.declared.diagnostic.Severity.TheVariants.{Error}
use Rattle.keymap_lint.specs.KindNames.{kind_name}
use Rattle.keymap_lint.specs.Severities.{severity_of, never_sticks}
use Rattle.keymap_text.specs.declared.fault.TextFaultKind.{TextFaultKind}
use Rattle.keymap_text.specs.declared.fault.TextFaultKind.TheVariants as faults
use Rattle.keymap_places.specs.declared.wanted.DefinitionStart.{DefinitionStart}
use Rattle.keymap_text.specs.FaultNames.{fault_name}
use Rattle.keymap_text.specs.Meaning.{line}
use Rattle.keymap_lint_text.specs.Faults.{fault_text}
use Rattle.keymap_lint_text.specs.Hints.{hint}
use Rattle.keymap_lint_text.specs.Heads.{Said, Remark, remark, printed}
use Rattle.keymap_lint_text.specs.Names.{is_noted}
use Rattle.keymap_lint_text.specs.Notes.{sticks_text, undecided_text, begins_text}
use Rattle.keymap_lint_text.specs.Said.{message_text}
use Rattle.keymap_names.specs.Shown.{shown_name}

-- what the search answered, if some modifier stays on or may stay on
abbrev pub answer : Option Sticking → List Remark
answer (Some (Sticks events modifiers)) = remark None (Said.Noted (sticks_text modifiers.items events.items)) ∷ []
answer (Some (Undecided presses)) = remark None (Said.Noted undecided_text) ∷ []
answer _ = []

-- the diagnostic, and behind some kinds what the search answered
abbrev pub judged : List ℕ → Diagnostics → Diagnostic → Remark
judged text l d =
    remark d.place (Said.Judged (severity_of (never_sticks l.sticking) d.kind) (kind_name d.kind)
    (message_text text l d.kind))

abbrev pub of_diagnostic : List ℕ → Diagnostics → Diagnostic → List Remark
of_diagnostic text l d = judged text l d ∷ (if is_noted l.list.items d.kind then answer l.sticking else [])

-- faults that stand in a definition and may come from its beginning
abbrev pub tells_beginning : TextFaultKind → Bool
tells_beginning faults.BadWord = true
tells_beginning faults.Unexpected = true
tells_beginning faults.EndInside = true
tells_beginning _ = false

-- where the definition of a fault begins, if that is in an earlier line
abbrev pub beginning : List ℕ → ℕ → TextFaultKind → Option DefinitionStart → List Remark
beginning text place kind None = []
beginning text place kind (Some d) =
    if tells_beginning kind && nat_lt (line text d.offset) (line text place)
    then remark (Some d.offset) (Said.Noted (begins_text d.what)) ∷ []
    else []

-- a fault, with what is told behind its message
abbrev pub hinted_remark : List ℕ → List ℕ → PlacedFault → Remark
hinted_remark text hint f =
    remark (Some f.fault.offset) (Said.Judged Error (fault_name f.fault.kind)
    (fault_text text f.fault.offset f.fault.kind f.place ++ hint))

abbrev pub hinted : List ℕ → List ℕ → PlacedFault → List Remark
hinted text hint f = hinted_remark text hint f ∷ beginning text f.fault.offset f.fault.kind f.place.definition

abbrev pub fault_remark : List ℕ → PlacedFault → Remark
fault_remark text f = hinted_remark text [] f

abbrev pub of_fault : List ℕ → PlacedFault → List Remark
of_fault text f = hinted text [] f

-- so many faults are told at most
abbrev pub told_faults : ℕ
told_faults = 20

-- a note that there are more faults than are told
abbrev pub more_faults : List PlacedFault → List Remark
more_faults fs =
    if nat_lt told_faults (length fs) then remark None (Said.Noted (codes "more faults follow")) ∷ [] else []

-- the first faults, and whether there are more; of a text that is taken for another one the first fault alone
abbrev pub of_faults : List ℕ → List PlacedFault → List Remark
of_faults text fs = flat_map (of_fault text) (take told_faults fs) ++ more_faults fs

abbrev pub of_first : List ℕ → List PlacedFault → Option (List ℕ) → List Remark
of_first text [] told = []
of_first text (f ∷ fs) None = of_faults text (f ∷ fs)
of_first text (f ∷ fs) (Some told) = hinted text told f

abbrev pub first_hint : List ℕ → List PlacedFault → Option (List ℕ)
first_hint text [] = None
first_hint text (f ∷ fs) = hint text f

-- the faults, or the diagnostics, in their order, each with its notes behind it
abbrev pub remarks : List ℕ → Lint → List Remark
remarks text (Faulty faults) = of_first text faults.items (first_hint text faults.items)
remarks text (Spelled l) = flat_map (of_diagnostic text l) l.list.items

abbrev pub lint_text : List ℕ → List ℕ → Lint → List ℕ
lint_text file text l = printed (shown_name file) text (remarks text l)

abbrev pub IsLintText : List ℕ → List ℕ → Lint → List ℕ → Type 0
IsLintText file text l bytes = bytes ≡ lint_text file text l
