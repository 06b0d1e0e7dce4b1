-- How a character is read in what is told: which have their number, beside those that a terminal doesn't show, and
-- which are marks, by Unicode's properties.
use Rattle.std.specs.Prelude.{ℕ, ◌%◌, ◌==◌, nat_le, Bool, not, ◌||◌, ◌&&◌, if◌then◌else◌, List, [], ◌∷◌, ◌++◌, codes}
use Rattle.std.specs.Prelude.{encode_utf8}
use Rattle.std.specs.List.{list_any}
use Rattle.keymap_core.specs.Actions.{within}
use Rattle.keymap_core.specs.Unseen.{is_unseen}
use Rattle.keymap_text.specs.Printed.{character_text}
use Rattle.keymap_names.specs.declared.characters.Span.{Span}
use Rattle.keymap_names.specs.declared.characters.TheConstants.{NUMBERED, MARKS}

abbrev pub is_in : List Span → ℕ → Bool
is_in spans c = list_any (λ span. within span.0 span.1 c) spans

-- a blank, a private character or none, among which are the last two of each plane
unfoldable pub is_numbered : ℕ → Bool
is_numbered c = is_in NUMBERED c || nat_le 0xfffe (c % 0x10000)

unfoldable pub is_mark : ℕ → Bool
is_mark c = is_in MARKS c

-- what a terminal doesn't show, the blanks, the private characters, and what is no character
unfoldable pub is_coded : ℕ → Bool
is_coded c = is_unseen c || is_numbered c

-- a character in quotes, a mark on a dotted circle
unfoldable pub quoted : ℕ → List ℕ
quoted c = codes "'" ++ (if is_mark c then encode_utf8 0x25cc else []) ++ encode_utf8 c ++ codes "'"

-- a character as a reader knows it; one that nobody sees, but for the blank, as a text spells it
unfoldable pub readable : ℕ → List ℕ
readable c = if not (c == 32) && is_coded c then character_text c else quoted c
