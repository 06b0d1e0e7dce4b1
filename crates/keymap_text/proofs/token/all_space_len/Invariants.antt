use Rattle.keymap_text.proofs.Common.{length, ◌-◌, ◌≡◌, ◌+◌, ◌≤◌, drop, is_space, leading}
use Rattle.keymap_text.proofs.token.all_space_len.Given as goal

abbrev pub invariant-loop-i : goal.invariant-loop-i
invariant-loop-i l = record {
  within : l.i ≤ length l.bytes;
  value : l.i + leading is_space (drop l.i l.bytes) ≡ leading is_space l.bytes;
}

abbrev pub decreases-loop-i : goal.decreases-loop-i
decreases-loop-i l = length l.bytes - l.i
