-- Which letter is the capital of which, and whether those of a text are letters for sure.
use Rattle.std.specs.Prelude.{ℕ, ◌-◌, ◌==◌, ◌%◌, Bool, false, not, ◌&&◌, ◌||◌, nat_le, List}
use Rattle.std.specs.List.{list_any}
use Rattle.keymap_core.specs.Actions.{within}
use Rattle.keymap_core.specs.Borne.{any_below}
use Rattle.keymap_core.specs.Maps.{MapValue, cell_at}
use Rattle.keymap_core.specs.Numbers.{slot_limit}
use Rattle.keymap_core.specs.declared.entry.Cell.{Cell}
use Rattle.keymap_core.specs.declared.entry.Cell.TheVariants.{Char, Act}
use Rattle.keymap_text.specs.Meaning.{tokens}
use Rattle.keymap_places.specs.Unicode.{is_unicode}
use Rattle.keymap_lint.specs.declared.capitals.Letters.{Letters}
use Rattle.keymap_lint.specs.declared.capitals.TheConstants.{LETTERS}

-- the small letter is in the row, each one or each second one, and the capital as far behind the row's first
abbrev pub is_pair_of : ℕ → ℕ → Letters → Bool
is_pair_of small capital row =
    within row.first row.last small && (row.has_each || (small - row.first) % 2 == 0) && nat_le row.capital capital
    && capital - row.capital == small - row.first

-- no letter before a has a capital
abbrev pub is_capital_of : ℕ → ℕ → Bool
is_capital_of small capital = nat_le 97 small && list_any (is_pair_of small capital) LETTERS

abbrev pub is_ascii : ℕ → Bool
is_ascii c = nat_le c 0x7f

-- some slot has a character above ASCII without shift or with it
abbrev pub is_wide_cell : Cell → Bool
is_wide_cell (Char c) = not (is_ascii c)
is_wide_cell (Act a) = false

abbrev pub is_wide_slot : MapValue → ℕ → Bool
is_wide_slot m slot = is_wide_cell (cell_at m slot 0) || is_wide_cell (cell_at m slot 1)

abbrev pub has_wide : MapValue → Bool
has_wide m = any_below (is_wide_slot m) slot_limit

-- where one has, whether the characters of the text are Unicode for sure
abbrev pub is_sure : MapValue → List ℕ → Bool
is_sure m text = has_wide m && is_unicode (tokens text)
