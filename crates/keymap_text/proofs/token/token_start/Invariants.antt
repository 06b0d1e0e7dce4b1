use Rattle.keymap_text.proofs.Common.{length, ◌-◌, ◌≡◌, ◌≤◌, drop, tokens_after}
use Rattle.keymap_text.proofs.token.token_start.Given as goal

abbrev pub invariant-loop-i : goal.invariant-loop-i
invariant-loop-i l = record {
  within : l.i ≤ length l.text;
  same : tokens_after 0 l.fn.at (drop l.fn.at l.text) ≡ tokens_after 0 l.i (drop l.i l.text);
}

abbrev pub decreases-loop-i : goal.decreases-loop-i
decreases-loop-i l = length l.text - l.i
