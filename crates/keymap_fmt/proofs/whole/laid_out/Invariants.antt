use Rattle.keymap_fmt.proofs.Common.{length, ◌-◌, ◌≡◌, ◌≤◌, ◌++◌, drop, pieces, pieces_after, rendered, rendered_from}
use Rattle.keymap_fmt.specs.Quoted.{written_from}
use Rattle.std.proofs.Common.{vec_len}
use Rattle.keymap_fmt.proofs.whole.laid_out.Given as goal

-- what is written, and the pieces to come, are the text in the layout
abbrev pub invariant-loop-piece : goal.invariant-loop-piece
invariant-loop-piece l = record {
  within : l.at ≤ length l.text;
  column : l.state.column ≤ vec_len l.laid;
  same : l.laid.items
      ++ rendered_from l.state (written_from l.quoting l.left (pieces_after 0 l.standing (drop l.at l.text)))
      ≡ rendered (written_from l.quoting 0 (pieces l.text));
}

abbrev pub decreases-loop-piece : goal.decreases-loop-piece
decreases-loop-piece l = length l.text - l.at
