-- What is answered: to a character, to an action that is taken, and to a release.
use Rattle.std.specs.Prelude.{ℕ, ◌==◌, Bool, false, not, Option, None, Some, if◌then◌else◌}
use Rattle.console_core.specs.Types.{Action, Answer}
use Rattle.keymap_core.specs.declared.action.Action.TheVariants as act
use Rattle.keymap_core.specs.Accents.{AccentValue, first_result, own_of}
use Rattle.keymap_core.specs.Maps.{MapValue, accent_at}
use Rattle.console_core.specs.declared.event.Answer.TheVariants as answer

abbrev pub has_own : Option AccentValue → Bool
has_own None = false
has_own (Some a) = not (a.own == 0)

-- a dead key that can be used: its index is in the accent map, and its accent's character isn't 0
abbrev pub usable : MapValue → ℕ → Bool
usable m i = has_own (accent_at m i)

-- an accent with the character c: its own character for 32
abbrev pub composed : AccentValue → ℕ → Option ℕ
composed a c = if c == 32 then Some a.own else first_result a.pairs c

abbrev pub composed_by : Option AccentValue → ℕ → Option ℕ
composed_by None c = None
composed_by (Some a) c = composed a c

abbrev pub char_or_error : Bool → Option ℕ → Answer
char_or_error meta None = answer.Error
char_or_error meta (Some c) = answer.Char c meta

-- to a press whose look is a character, by the pending accent
abbrev pub answer_char : MapValue → Option ℕ → Bool → ℕ → Answer
answer_char m None meta c = answer.Char c meta
answer_char m (Some i) meta c = char_or_error meta (composed_by (accent_at m i) c)

abbrev pub is_pending : ℕ → Option ℕ → Bool
is_pending i None = false
is_pending i (Some j) = j == i

-- to a dead key
abbrev pub answer_dead_key : MapValue → Option ℕ → Bool → ℕ → Answer
answer_dead_key m p meta i =
    if usable m i
    then (if is_pending i p then char_or_error meta (own_of (accent_at m i)) else answer.None)
    else answer.Error

-- to an action that no accent can be put on
abbrev pub answer_unless_pending : Option ℕ → Action → Answer
answer_unless_pending None a = answer.Special a
answer_unless_pending (Some i) a = answer.Error

-- to a press that takes the action
abbrev pub answer_action : MapValue → Option ℕ → Bool → Action → Answer
answer_action m p meta act.Nop = answer.None
answer_action m p meta act.BackTab = answer.BackTab
answer_action m p meta (act.DeadKey i) = answer_dead_key m p meta i
answer_action m p meta (act.Function n) = answer_unless_pending p (act.Function n)
answer_action m p meta (act.Screen n) = answer_unless_pending p (act.Screen n)
answer_action m p meta act.Paste = answer_unless_pending p act.Paste
answer_action m p meta a = answer.Special a

-- to a release of a key, by what it remembered
abbrev pub answer_release : Option Action → Answer
answer_release None = answer.None
answer_release (Some a) = answer.Released a
