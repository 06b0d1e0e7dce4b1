-- What a token stands for where a character, a cell, a lock letter or an accent is wanted.
use Rattle.std.specs.Prelude.{ℕ, if◌then◌else◌, Option, Some, None, Result, Ok, Err}
use lib.Utf8.{scalar}
use Rattle.keymap_text.specs.Types.{Cell, LockFlag, Action, TextFaultKind, Number, Char, Act, Combined, OutOfRange}
use Rattle.keymap_text.specs.Types.{Letter, Unknown, Item, Open, Close, Value}
use Rattle.keymap_core.specs.declared.entry.Cell.TheVariants as cells
use Rattle.keymap_core.specs.declared.action.Action.TheVariants.{DeadKey}
use Rattle.keymap_text.specs.declared.fault.TextFaultKind.TheVariants as faults

-- the fault of a token where it is not wanted
abbrev pub refusal : Item → TextFaultKind
refusal Open = faults.Unexpected
refusal Close = faults.Unexpected
refusal (Value (Number n)) = faults.Unexpected
refusal (Value (Char c)) = faults.Unexpected
refusal (Value (Act a)) = faults.Unexpected
refusal (Value Combined) = faults.Combined
refusal (Value OutOfRange) = faults.BadFunction
refusal (Value (Letter f)) = faults.Unexpected
refusal (Value Unknown) = faults.BadWord

-- the character of a token, where one is wanted
abbrev pub character : Item → Result ℕ TextFaultKind
character (Value (Number n)) = if scalar n then Ok n else Err faults.BadChar
character (Value (Char c)) = Ok c
character other = Err (refusal other)

-- the cell of a token: an action, or a character
abbrev pub cell : Item → Result Cell TextFaultKind
cell (Value (Act a)) = Ok (cells.Act a)
cell other = elim (character other) [ Ok c ↦ Ok (cells.Char c) | Err f ↦ Err f ]

abbrev pub lock : Item → Result LockFlag TextFaultKind
lock (Value (Letter f)) = Ok f
lock other = Err (refusal other)

-- the accent that an action names
abbrev pub accent_index : Action → Option ℕ
accent_index (DeadKey i) = Some i
accent_index other = None
