-- The definitions that maps have, and their words.
use Rattle.std.specs.Prelude.{ℕ, ◌<◌, List}
use Rattle.keymap_core.specs.Bounds.{IsEntry, IsAccent}
use Rattle.keymap_core.specs.Numbers.{slot_limit, accent_limit}
use Rattle.keymap_text.specs.Printed.{slot_words, accent_words}
use Rattle.keymap_text.specs.Rows.{Definition, KeyDefinition, AccentDefinition}

-- the definition of a slot or an accent, within the bounds of a map
abbrev pub IsDefinition : Definition → Type 0
IsDefinition (KeyDefinition slot e) = (slot < slot_limit) × IsEntry e
IsDefinition (AccentDefinition i a) = (i < accent_limit) × IsAccent a

-- the words of a definition, with one blank between them, as the printed form has them
abbrev pub definition_words : Definition → List ℕ
definition_words (KeyDefinition slot e) = slot_words slot e
definition_words (AccentDefinition i a) = accent_words i a
