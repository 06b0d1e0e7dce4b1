-- What is printed of remarks in a format.
use Rattle.std.specs.Prelude.{◌≡◌, ℕ, List, [], codes, ⊤}
use Rattle.keymap_lint_text.specs.Heads.{Remark, printed}
use Rattle.keymap_names.specs.Shown.{shown_name}
use Rattle.lint_formats.specs.declared.format.Format.{Format}
use Rattle.lint_formats.specs.declared.format.Format.TheVariants.{Text, Json, Sarif}
use Rattle.lint_formats.specs.declared.sarif.TheConstants as words

-- The text is defined to the byte, under the name of the file as it is shown.
abbrev pub IsPrinted : Format → List ℕ → List ℕ → List Remark → List ℕ → Type 0
IsPrinted Text file source es bytes = bytes ≡ printed (shown_name file) source es
IsPrinted _ file source es bytes = ⊤

-- what stands before the rows
abbrev pub front_of : Format → List ℕ
front_of Json = codes "["
front_of Sarif = words.SARIF_FRONT.now
front_of _ = []

-- what stands behind them
abbrev pub IsEnd : Format → List ℕ → Type 0
IsEnd Json bytes = bytes ≡ codes "\n]\n"
IsEnd Sarif bytes = ⊤
IsEnd _ bytes = bytes ≡ []
