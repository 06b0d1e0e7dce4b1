-- What the bits of a console's word hold: the modifiers in bits 0 to 7, the locks in bits 8 to 11, the down marks in
-- bits 12 to 15, the pending dead key in bits 16 to 19, the map in force in bit 20.
use Rattle.std.specs.Prelude.{ℕ, ◌+◌, ◌-◌, ◌/◌, ◌^◌, ◌==◌, Bool, Option, None, Some, if◌then◌else◌, bit_and}
use Rattle.std.specs.Prelude.{List, slice_index_or}
use Rattle.std.specs.Int.{bit_at}
use Rattle.console_core.specs.Types.{Action, Holding, Lock}
use Rattle.keymap_core.specs.declared.action.Holding.TheVariants as holding
use Rattle.keymap_core.specs.Actions.{action_of, modifier_index, lock_index}
use Rattle.console_core.specs.Agrees.{Kept}

abbrev pub bit_is_set : ℕ → ℕ → Bool
bit_is_set word i = bit_at word i == 1

abbrev pub mark_bit : Holding → ℕ
mark_bit (holding.Mod m) = modifier_index m
mark_bit (holding.Lock l) = 12 + lock_index l

abbrev pub lock_bit : Lock → ℕ
lock_bit l = 8 + lock_index l

abbrev pub word_mark : ℕ → Holding → Bool
word_mark word a = bit_is_set word (mark_bit a)

abbrev pub word_lock : ℕ → Lock → Bool
word_lock word l = bit_is_set word (lock_bit l)

abbrev pub word_second : ℕ → Bool
word_second word = bit_is_set word 20

abbrev pub pending_from : ℕ → Option ℕ
pending_from n = if n == 0 then None else Some (n - 1)

abbrev pub pending_field : ℕ → ℕ
pending_field word = bit_and (word / 2 ^ 16) 15

abbrev pub word_pending : ℕ → Option ℕ
word_pending word = pending_from (pending_field word)

abbrev pub pending_code : Option ℕ → ℕ
pending_code None = 0
pending_code (Some i) = i + 1

-- the action that is kept as a byte: none as 0, else by its code
abbrev pub action_of_byte : ℕ → Option Action
action_of_byte code = if code == 0 then None else action_of code

-- the action that is remembered for a key, by the bytes of all keys
abbrev pub code_memory : List ℕ → ℕ → Option Action
code_memory codes k = action_of_byte (slice_index_or codes k 0)

abbrev pub kept_in_word : ℕ → List ℕ → Kept
kept_in_word word codes = record {
  mark = word_mark word;
  lock = word_lock word;
  memory = code_memory codes;
  pending = word_pending word;
  is_second = word_second word;
}
