-- What who reads the diagnostics of a text may rely on.
use Rattle.std.specs.Prelude.{◌≡◌, ℕ, ◌==◌, ◌&&◌, not, Bool, true, false, List}
use Rattle.std.specs.Prelude.{[], ◌∷◌, ◌++◌, codes, map, slice_index, take, Option, Some, None}
use Rattle.std.specs.List.{All, filter, list_all}
use Rattle.console_core.specs.declared.event.Event.{Event}
use Rattle.keymap_core.specs.declared.action.Modifier.{Modifier}
use Rattle.keymap_lint.specs.declared.diagnostic.Lint.{Lint}
use Rattle.keymap_lint.specs.declared.diagnostic.Lint.TheVariants.{Faulty, Spelled}
use Rattle.keymap_lint_text.specs.Heads.{Said, Remark, head}
use Rattle.keymap_lint_text.specs.Notes.{events_text, modifiers_text, sticks_text}
use Rattle.keymap_names.specs.Shown.{IsLine, IsPlainText, lines_text, shown_name}
use Rattle.keymap_lint_text.specs.Whole.{IsLintText, fault_remark, first_hint, hinted_remark, remarks, judged}
use Rattle.keymap_lint_text.specs.Whole.{told_faults}
use Rattle.keymap_lint.specs.declared.diagnostic.PlacedFault.{PlacedFault}

abbrev pub PrintedIsPlain : Type 0
PrintedIsPlain = (file text : List ℕ) (l : Lint) (printed : List ℕ) → IsLintText file text l printed
    → IsPlainText printed

-- a line that begins with two blanks, as that of a place does, and that of its caret
abbrev pub is_indented : List ℕ → Bool
is_indented line = slice_index line 0 == 32 && slice_index line 1 == 32

abbrev pub is_flush : List ℕ → Bool
is_flush line = not (is_indented line)

-- The printed bytes are lines. Those that don't begin with two blanks are the heads of the remarks; a file's name that
-- begins with two blanks is left out, since with it each line does.
pub record HasHeads (file text : List ℕ) (es : List Remark) (printed : List ℕ) : Type 0 where
  pub lines : List (List ℕ)
  pub spelled : printed ≡ lines_text lines
  pub plain : All IsLine lines
  pub heads : is_indented file ≡ false → filter is_flush lines ≡ map (head file text) es

abbrev pub EachRemarkHasOneHead : Type 0
EachRemarkHasOneHead =
    (file text : List ℕ) (l : Lint) (printed : List ℕ) → IsLintText file text l printed
    → HasHeads (shown_name file) text (remarks text l) printed

abbrev pub is_judged : Remark → Bool
is_judged e = is_judged_of e.said
  where
    is_judged_of : Said → Bool
    is_judged_of (Said.Judged severity kind message) = true
    is_judged_of _ = false

-- the faults that are told, by what is told behind the first one if the text is taken for another one
abbrev pub judged_faults : List ℕ → List PlacedFault → Option (List ℕ) → List Remark
judged_faults text [] told = []
judged_faults text (f ∷ fs) None = map (fault_remark text) (take told_faults (f ∷ fs))
judged_faults text (f ∷ fs) (Some told) = hinted_remark text told f ∷ []

-- the remarks that are no notes: the faults, or the diagnostics, in their order
abbrev pub diagnostics : List ℕ → Lint → List Remark
diagnostics text (Faulty faults) = judged_faults text faults.items (first_hint text faults.items)
diagnostics text (Spelled l) = map (judged text l) l.list.items

abbrev pub EachDiagnosticIsOneRemark : Type 0
EachDiagnosticIsOneRemark = (text : List ℕ) (l : Lint) → filter is_judged (remarks text l) ≡ diagnostics text l

abbrev pub is_no_colon : ℕ → Bool
is_no_colon c = not (c == 58)

-- The message tells the modifiers, behind them in words without a colon that they stay on, and behind the colon exactly
-- the events.
pub record TellsEvents (modifiers : List Modifier) (events : List Event) (message : List ℕ) : Type 0 where
  pub words : List ℕ
  pub no_colon : list_all is_no_colon words ≡ true
  pub told : message ≡ modifiers_text modifiers ++ words ++ codes ": " ++ events_text events

abbrev pub NotesTellEvents : Type 0
NotesTellEvents =
    (modifiers : List Modifier) (events : List Event)
    → TellsEvents modifiers events (sticks_text modifiers events)
