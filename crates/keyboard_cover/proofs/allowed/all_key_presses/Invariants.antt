-- the keys below the code are pressed as they should
use Rattle.std.proofs.Common.{◌≡◌, ◌<◌, ℕ, length, slice_index_or}
use Rattle.console_states.specs.declared.allowed.KeyPresses.TheVariants.{Never}
use Rattle.keyboard_cover.specs.Allowed.{key_presses}
use Rattle.keyboard_cover.proofs.allowed.all_key_presses.Given as goal

abbrev pub invariant-loop-code : goal.invariant-loop-code
invariant-loop-code l =
    (length l.keys ≡ 128) × ((k : ℕ) → k < l.code → slice_index_or l.keys k Never ≡ key_presses l.board k)
