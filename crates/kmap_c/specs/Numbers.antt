-- The numbers by which a caller in C names events, and what a call answers to them.
use Rattle.std.specs.Prelude.{ℕ, ◌-◌, ◌==◌, nat_le, ℤ, pos, negsuc, List, [], ◌∷◌, length, Bool, true, ◌&&◌, Option}
use Rattle.std.specs.Prelude.{Some, None, if◌then◌else◌}
use Rattle.keymap_tables.specs.Layouts.{wide, file_size}
use Rattle.keymap_tables.specs.declared.fault.TableFaultKind.{TableFaultKind}
use Rattle.keymap_tables.specs.declared.fault.TableFaultKind.TheVariants.{Short, Long, BadCount, BadPad, BadFlag}
use Rattle.keymap_tables.specs.declared.fault.TableFaultKind.TheVariants.{BadAction, Combined, BadChar, NotEmpty}
use Rattle.console_core.specs.declared.event.Event.{Event}
use Rattle.console_core.specs.declared.event.Event.TheVariants as event
use Rattle.kmap_c.specs.Statuses as status

-- 0 to 127 a press of that key, 128 to 255 a release of the key less 128, 256 a reset, 257 a load
abbrev pub is_event : ℕ → Bool
is_event n = nat_le n 257

-- the event that a number up to 257 stands for
abbrev pub event_of : ℕ → Event
event_of n =
    if nat_le n 127 then event.Press n
    else if nat_le n 255 then event.Release (n - 128)
    else if n == 256 then event.Reset
    else event.Load

abbrev pub are_events : List ℕ → Bool
are_events [] = true
are_events (n ∷ rest) = is_event n && are_events rest

-- a table file hasn't its length, or else a number names no event, or else there are fewer places for answers than
-- events
abbrev pub status_of : List ℕ → List ℕ → List ℕ → ℕ → ℤ
status_of first second numbers places =
    if (length first == file_size wide) && (length second == file_size wide)
    then (
    if are_events numbers then (if nat_le (length numbers) places then status.done else status.no_room)
    else status.bad_event
    )
    else status.bad_length

abbrev pub kind_number : TableFaultKind → ℕ
kind_number Short = 1
kind_number Long = 2
kind_number BadCount = 3
kind_number BadPad = 4
kind_number BadFlag = 5
kind_number BadAction = 6
kind_number Combined = 7
kind_number BadChar = 8
kind_number NotEmpty = 9

-- the index of an accent, -1 for none
abbrev pub accent_number : Option ℕ → ℤ
accent_number None = negsuc 0
accent_number (Some i) = pos i
