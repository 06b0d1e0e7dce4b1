-- What is written on a cap for a cell, as characters: none, a sign (one character, or a mark on a dotted circle), or a
-- word of two or more letters and digits.
use Rattle.std.specs.Prelude.{ℕ, ◌==◌, nat_lt, nat_le, Bool, ◌||◌, ◌&&◌, not, List, [], ◌∷◌, ◌++◌, codes, decimal}
use Rattle.std.specs.Prelude.{length, slice_index, option_map, Option, Some, None, if◌then◌else◌}
use Rattle.std.specs.List.{filter, find}
use Rattle.keymap_core.specs.declared.action.Action.{Action}
use Rattle.keymap_core.specs.declared.action.Action.TheVariants as a
use Rattle.keymap_core.specs.declared.entry.Cell.{Cell}
use Rattle.keymap_core.specs.declared.entry.Cell.TheVariants.{Char, Act}
use Rattle.keymap_core.specs.Actions.{name_of}
use Rattle.keymap_core.specs.CodePoints.{code_text}
use Rattle.keymap_text.specs.Printed.{control_name}
use Rattle.keymap_draw.specs.declared.tables.UnseenName.{UnseenName}
use Rattle.keymap_draw.specs.declared.tables.TheConstants.{UNSEEN_NAMES, ACCENT_MARKS}
use Rattle.keymap_names.specs.Characters.{is_coded, is_mark}

-- the name in the first row for the character, filled with blanks
abbrev pub name_in : List UnseenName → ℕ → Option (List ℕ)
name_in rows c = option_map (λ row. row.1) (find (λ row. row.0 == c) rows)

-- a name without the blanks that fill it
unfoldable pub unfilled : List ℕ → List ℕ
unfilled name = filter (λ letter. not (letter == 32)) name

-- a mark on a dotted circle
abbrev pub marked : ℕ → List ℕ
marked mark = 0x25cc ∷ mark ∷ []

unfoldable pub unseen_name : ℕ → Option (List ℕ)
unseen_name c = name_in UNSEEN_NAMES c

-- what has a code for a legend, what stands on a dotted circle, and what stands as it is
unfoldable pub shown_legend : ℕ → List ℕ
shown_legend c =
    if is_coded c then code_text c
    else if is_mark c then marked c
    else c ∷ []

-- the name of a character that nobody sees, if it has one
abbrev pub named_or : Option (List ℕ) → List ℕ → List ℕ
named_or None legend = legend
named_or (Some name) legend = unfilled name

unfoldable pub other_legend : ℕ → List ℕ
other_legend c = named_or (unseen_name c) (shown_legend c)

unfoldable pub character_legend : ℕ → List ℕ
character_legend c =
    if c == 0 then []
    else if c == 9 then codes "tab"
    else if c == 13 then codes "ret"
    else if nat_lt c 32 || c == 127 then control_name c
    else if c == 32 then 0x2423 ∷ []
    else other_legend c

-- the mark of an accent, by its index
abbrev pub accent_mark : ℕ → ℕ
accent_mark i = slice_index ACCENT_MARKS i

unfoldable pub action_legend : Action → List ℕ
action_legend a.Nop = []
action_legend (a.Screen n) = codes "scr" ++ decimal n
action_legend (a.Function n) = codes "F" ++ decimal n
action_legend (a.DeadKey i) = marked (accent_mark i)
action_legend action = name_of action

abbrev pub cell_legend : Cell → List ℕ
cell_legend (Char c) = character_legend c
cell_legend (Act action) = action_legend action

-- a legend of two or more characters that isn't a mark on its circle
abbrev pub is_word : List ℕ → Bool
is_word legend = nat_le 2 (length legend) && not (slice_index legend 0 == 0x25cc)
