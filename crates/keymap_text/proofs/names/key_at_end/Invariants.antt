use Rattle.keymap_text.proofs.Common.{length, ◌-◌, ◌≡◌, ◌≤◌, take}
use Rattle.keymap_text.proofs.names.key_at_end.Given as goal

abbrev pub invariant-loop-i : goal.invariant-loop-i
invariant-loop-i l = record {
  within : l.i ≤ l.n;
  eight : length l.eight ≡ 8;
  same : take l.i l.eight ≡ take l.i l.bytes;
}

abbrev pub decreases-loop-i : goal.decreases-loop-i
decreases-loop-i l = l.n - l.i
