-- Answers as numbers, by the marks of sys/dev/kbd/kbdreg.h.
use Rattle.std.specs.Prelude.{ℕ, ◌+◌, true, false}
use Rattle.console_core.specs.Types.{Action, Answer}
use Rattle.keymap_core.specs.declared.action.Action.TheVariants.{Function}
use Rattle.keymap_core.specs.Actions.{code_of}
use Rattle.console_core.specs.declared.event.Answer.TheVariants as answer

-- the mark of a function key
abbrev pub function_mark_of : Action → ℕ
function_mark_of (Function n) = 0x02000000
function_mark_of _ = 0

-- nothing, error, a character (with meta), an action, the back tab, the release of an action
abbrev pub raw_of : Answer → ℕ
raw_of answer.None = 0x01000000
raw_of answer.Error = 0x20000000
raw_of (answer.Char c false) = c
raw_of (answer.Char c true) = 0x04000000 + c
raw_of (answer.Special a) = 0x80000000 + function_mark_of a + code_of a
raw_of answer.BackTab = 0x88000008
raw_of (answer.Released a) = 0xc0000000 + code_of a
