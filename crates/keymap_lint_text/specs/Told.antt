-- Remarks as the values that are handed out, and how many of them there are.
use Rattle.std.specs.Prelude.{ℕ, Bool, true, false, List, map, Option, Some, None}
use Rattle.std.specs.List.{count_by}
use Rattle.keymap_lint.specs.declared.diagnostic.Severity.{Severity}
use Rattle.keymap_lint.specs.declared.diagnostic.Severity.TheVariants as severities
use Rattle.keymap_lint_text.specs.Heads.{Said, Remark, remark}
use Rattle.keymap_lint_text.specs.declared.remark.Remark.{Remark as RemarkValue}
use Rattle.keymap_lint_text.specs.declared.remark.Said.{Said as SaidValue}
use Rattle.keymap_lint_text.specs.declared.remark.Said.TheVariants as values

abbrev pub said_of : SaidValue → Said
said_of (values.Judged severity kind message) = Said.Judged severity kind.now message.items
said_of (values.Noted message) = Said.Noted message.items

abbrev pub remark_of : RemarkValue → Remark
remark_of r = remark r.place (said_of r.said)

abbrev pub remarks_of : List RemarkValue → List Remark
remarks_of rs = map remark_of rs

-- what is said of the whole text is told at its beginning
abbrev pub place_or_beginning : Option ℕ → ℕ
place_or_beginning None = 0
place_or_beginning (Some place) = place

abbrev pub is_same_severity : Severity → Severity → Bool
is_same_severity severities.Error severities.Error = true
is_same_severity severities.Warning severities.Warning = true
is_same_severity _ _ = false

-- a fault or a diagnostic of this severity
abbrev pub is_of : Severity → Remark → Bool
is_of severity e = is_of_said e.said
  where
    is_of_said : Said → Bool
    is_of_said (Said.Judged own kind message) = is_same_severity own severity
    is_of_said _ = false

-- how many of the remarks are faults or diagnostics of this severity
abbrev pub counted : Severity → List Remark → ℕ
counted severity es = count_by (is_of severity) es
