use Rattle.std.proofs.Common.{◌+◌, ◌≡◌, ◌≤◌, length, take}
use Rattle.std.specs.List.{suffix_len}
use Rattle.keyboard.specs.Filled.{is_filler}
use Rattle.keyboard.proofs.keys.unfilled.Given as goal

-- all bytes that were passed fill the text
abbrev pub invariant-loop-end : goal.invariant-loop-end
invariant-loop-end l = record {
  within : l.end ≤ length l.text;
  same :
      l.end + suffix_len (is_filler l.filler) l.text
      ≡ length l.text + suffix_len (is_filler l.filler) (take l.end l.text);
}

abbrev pub decreases-loop-end : goal.decreases-loop-end
decreases-loop-end l = l.end
