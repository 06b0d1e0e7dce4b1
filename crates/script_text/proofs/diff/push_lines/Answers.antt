use Rattle.script_text.proofs.Covered.{piece_behind}
use Rattle.script_text.specs.Diff.{line_at}
use Rattle.script_text.proofs.diff.push_lines.Goals as goal

pub loop-place-preserved : goal.loop-place-preserved
loop-place-preserved c =
    piece_behind (line_at c.args.changes.now) c.loop-place.place c.args.text.now.items c.loop-place.text.items _
    c.loop-place.invariant c.in_ok-push_line_at.ensures
