-- What a definition wants, and what is told of it: its name, its columns and characters.
use Rattle.std.specs.Prelude.{ℕ, List, [], ◌∷◌, codes, decimal, encode_utf8, if◌then◌else◌, slice_index_or}
use Rattle.std.specs.Prelude.{Option, Some, None}
use Rattle.keymap_places.specs.declared.placed.Defined.{Defined}
use Rattle.keymap_places.specs.declared.placed.Defined.TheVariants.{Slot, Accent}
use Rattle.keymap_places.specs.declared.wanted.Wanted.{Wanted}
use Rattle.keymap_places.specs.declared.wanted.Wanted.TheVariants as wants
use Rattle.keymap_places.specs.declared.wanted.DefinitionStart.{DefinitionStart}
use Rattle.keymap_text.specs.Printed.{character_text}
use Rattle.messages.specs.Filled.{filled}
use Rattle.keymap_names.specs.Lists.{accent_name, column_names}
use Rattle.keymap_names.specs.Quoted.{is_quoted}
use Rattle.keymap_names.specs.Shown.{word_text}

-- a character as a text that is Unicode has it: quoted where it is a sign, or else by its name or number
unfoldable pub character_name : ℕ → List ℕ
character_name c =
    word_text (if is_quoted c then filled (codes "'{}'") (encode_utf8 c ∷ []) else character_text c)

-- a column, and what selects it
unfoldable pub column_text : ℕ → List ℕ
column_text column =
    filled (codes "column {} ({})") (decimal column ∷ slice_index_or column_names column [] ∷ [])

-- what a definition defines
abbrev pub defined_text : Defined → List ℕ
defined_text (Slot slot) = filled (codes "slot {}") (decimal slot ∷ [])
defined_text (Accent i) = accent_name i

-- the definition that has begun, where one has
abbrev pub started_text : Option DefinitionStart → List ℕ
started_text None = []
started_text (Some d) = defined_text d.what

-- what is wanted in the definition that has begun
unfoldable pub wanted_text : Wanted → Option DefinitionStart → List ℕ
wanted_text wants.Definition d = filled (codes "the number of a slot or the name of an accent") []
wanted_text (wants.Cell column) d = filled (codes "the cell of {} in {}") (started_text d ∷ column_text column ∷ [])
wanted_text wants.Lock d = filled (codes "the lock letter of {} (O, C, N or B)") (started_text d ∷ [])
wanted_text wants.AccentCharacter d = filled (codes "the character of {}") (started_text d ∷ [])
wanted_text (wants.Pair n) d =
    filled (codes "a pair of {}, the number of a slot or the name of an accent") (started_text d ∷ [])
wanted_text (wants.Base n) d = filled (codes "the base of a pair of {}") (started_text d ∷ [])
wanted_text (wants.Composed n) d = filled (codes "the result of a pair of {}") (started_text d ∷ [])
wanted_text (wants.PairEnd n) d = filled (codes "the ')' of a pair of {}") (started_text d ∷ [])
