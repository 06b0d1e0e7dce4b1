use Rattle.keymap_fmt.proofs.Common.{length, ◌-◌, ◌≡◌, ◌≤◌, drop, leading, is_space, pieces_after}
use Rattle.keymap_fmt.proofs.piece.next_piece.Given as goal

-- the pieces are those from the place on
abbrev pub invariant-loop-i : goal.invariant-loop-i
invariant-loop-i l = record {
  from : l.at ≤ l.i;
  within : l.i ≤ length l.text;
  same : pieces_after 0 l.fn.first (drop l.fn.at l.text) ≡ pieces_after 0 l.standing (drop l.i l.text);
  behind : leading is_space (drop l.i l.text) ≡ 0;
}

abbrev pub decreases-loop-i : goal.decreases-loop-i
decreases-loop-i l = length l.text - l.i
