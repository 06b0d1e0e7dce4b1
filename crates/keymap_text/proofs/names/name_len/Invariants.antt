use Rattle.keymap_text.proofs.Common.{length, ◌-◌, ◌≡◌, ◌+◌, ◌≤◌, drop, leading, is_letter}
use Rattle.keymap_text.proofs.names.name_len.Given as goal

abbrev pub invariant-loop-i : goal.invariant-loop-i
invariant-loop-i l = record {
  within : l.i ≤ length l.name;
  value : l.i + leading is_letter (drop l.i l.name) ≡ leading is_letter l.name;
}

abbrev pub decreases-loop-i : goal.decreases-loop-i
decreases-loop-i l = length l.name - l.i
