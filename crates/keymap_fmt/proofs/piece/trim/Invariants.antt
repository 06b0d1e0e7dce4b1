use Rattle.keymap_fmt.proofs.Common.{◌+◌, ◌≡◌, ◌≤◌, length, take, suffix_len, is_space}
use Rattle.keymap_fmt.proofs.piece.trim.Given as goal

-- all bytes that were passed are blanks
abbrev pub invariant-loop-end : goal.invariant-loop-end
invariant-loop-end l = record {
  within : l.end ≤ length l.bytes;
  same : l.end + suffix_len is_space l.bytes ≡ length l.bytes + suffix_len is_space (take l.end l.bytes);
}

abbrev pub decreases-loop-end : goal.decreases-loop-end
decreases-loop-end l = l.end
