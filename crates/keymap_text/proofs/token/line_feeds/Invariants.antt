use Rattle.keymap_text.proofs.Common.{◌≡◌, ◌≤◌, ◌-◌, ◌==◌, length, take, count_by}
use Rattle.keymap_text.proofs.token.line_feeds.Given as goal

abbrev pub invariant-loop-i : goal.invariant-loop-i
invariant-loop-i l = record {
  inside : l.i ≤ length l.bytes;
  value : l.n ≡ count_by (λ c. c == 10) (take l.i l.bytes);
  bound : l.n ≤ l.i;
}

abbrev pub decreases-loop-i : goal.decreases-loop-i
decreases-loop-i l = length l.bytes - l.i
