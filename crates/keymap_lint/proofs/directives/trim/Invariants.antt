use Rattle.keymap_lint.proofs.Common.{◌≡◌, ◌+◌, ◌≤◌, length, take}
use Rattle.std.specs.List.{suffix_len}
use Rattle.keymap_text.specs.Lexical.{is_space}
use Rattle.keymap_lint.proofs.directives.trim.Given as goal

-- all bytes that were passed are spaces
abbrev pub invariant-loop-end : goal.invariant-loop-end
invariant-loop-end l = record {
  within : l.end ≤ length l.bytes;
  same : l.end + suffix_len is_space l.bytes ≡ length l.bytes + suffix_len is_space (take l.end l.bytes);
}

abbrev pub decreases-loop-end : goal.decreases-loop-end
decreases-loop-end l = l.end
