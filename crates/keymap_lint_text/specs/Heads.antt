-- What is printed at a place: its line with the file, the place, the severity, the message and the kind, the line of
-- the text, and the caret.
use Rattle.std.specs.Prelude.{ℕ, ◌+◌, List, [], ◌∷◌, ◌++◌, codes, decimal, length, Option, Some, None}
use Rattle.std.specs.List.{flat_map}
use Rattle.keymap_lint.specs.declared.diagnostic.Severity.{Severity}
use Rattle.keymap_places.specs.LineOf.{before_in_line, rest_of_line}
use Rattle.keymap_text.specs.Meaning.{line}
use Rattle.keymap_lint_text.specs.Excerpt.{excerpt}
use Rattle.keymap_lint_text.specs.Names.{severity_text}
use Rattle.keymap_names.specs.Shown.{lines_text}

-- What is said: a diagnostic, by its severity, the name of its kind and its message; or a note.
pub data Said : Type 0 where
  Judged : Severity → List ℕ → List ℕ → Said
  Noted : List ℕ → Said

-- What is said at a place, or of the whole text, which has none.
pub record Remark : Type 0 where
  pub place : Option ℕ
  pub said : Said

abbrev pub remark : Option ℕ → Said → Remark
remark place said = record { place = place; said = said }

-- The file, the line and its column, both counted from 1; columns are bytes. What is said of the whole text stands at
-- the beginning of its first line.
abbrev pub place_text : List ℕ → List ℕ → Option ℕ → List ℕ
place_text file text None = file ++ codes ":1:1: "
place_text file text (Some place) =
    file ++ codes ":" ++ decimal (line text place) ++ codes ":"
    ++ decimal (length (before_in_line text place) + 1) ++ codes ": "

-- a diagnostic and a note
abbrev pub judged_text : List ℕ → List ℕ → List ℕ → List ℕ
judged_text severity kind message = severity ++ codes ": " ++ message ++ codes " [" ++ kind ++ codes "]"

abbrev pub noted_text : List ℕ → List ℕ
noted_text message = codes "note: " ++ message

abbrev pub said_text : Said → List ℕ
said_text (Said.Judged severity kind message) = judged_text (severity_text severity) kind message
said_text (Said.Noted message) = noted_text message

-- the first line of a remark
abbrev pub head : List ℕ → List ℕ → Remark → List ℕ
head file text e = place_text file text e.place ++ said_text e.said

-- the lines below it
abbrev pub below : List ℕ → Option ℕ → List (List ℕ)
below text None = []
below text (Some place) = excerpt (before_in_line text place) (rest_of_line text place)

-- what is printed of a remark, under these bytes in place of the file's name
abbrev pub printed_of : List ℕ → List ℕ → Remark → List ℕ
printed_of file text e = lines_text (head file text e ∷ below text e.place)

-- what is printed of remarks, one behind the other
abbrev pub printed : List ℕ → List ℕ → List Remark → List ℕ
printed file text es = flat_map (printed_of file text) es
