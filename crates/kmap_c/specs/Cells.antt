-- The number of a cell: that of the answer that it is by itself.
use Rattle.std.specs.Prelude.{ℕ, ◌==◌, nat_lt, ℤ, List, length, false, ◌&&◌, if◌then◌else◌}
use Rattle.keymap_core.specs.Numbers.{slot_limit, column_count}
use Rattle.keymap_core.specs.declared.action.Action.TheVariants as a
use Rattle.keymap_core.specs.declared.entry.Cell.{Cell}
use Rattle.keymap_core.specs.declared.entry.Cell.TheVariants.{Char, Act}
use Rattle.keymap_tables.specs.Layouts.{wide, file_size}
use Rattle.console_core.specs.Raw.{raw_of}
use Rattle.console_core.specs.declared.event.Answer.{Answer}
use Rattle.console_core.specs.declared.event.Answer.TheVariants as answer
use Rattle.kmap_c.specs.Statuses as status

-- the character of a cell, or its action as one that is taken
abbrev pub answer_in : Cell → Answer
answer_in (Char c) = answer.Char c false
answer_in (Act a.BackTab) = answer.BackTab
answer_in (Act x) = answer.Special x

abbrev pub cell_number : Cell → ℕ
cell_number cell = raw_of (answer_in cell)

abbrev pub cell_status : List ℕ → ℕ → ℕ → ℤ
cell_status tables slot column =
    if length tables == file_size wide
    then (if nat_lt slot slot_limit && nat_lt column column_count then status.done else status.bad_place)
    else status.bad_length
