-- What keyboards, X and loadkeys call keys and accents, and the names that these have here: a table of 66 rows.
use Rattle.std.specs.Prelude.{ℕ, ◌+◌, ◌*◌, ◌==◌, Bool, List, take, drop}
use Rattle.std.specs.List.{before_first}
use Rattle.keymap_lint_text.specs.declared.other_names.TheConstants as words

abbrev pub is_dot : ℕ → Bool
is_dot c = c == 46

-- what stands at a place of the table, in so many bytes, without the dots
unfoldable pub field : ℕ → ℕ → List ℕ
field from width = before_first is_dot (take width (drop from words.OTHERS.now))

-- the word of a row, in lower case, and its name
abbrev pub other_word : ℕ → List ℕ
other_word i = field (24 * i) 16

abbrev pub other_name : ℕ → List ℕ
other_name i = field (24 * i + 16) 8
