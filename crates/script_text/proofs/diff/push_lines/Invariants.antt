use Rattle.script_text.proofs.Common.{◌≡◌, ◌++◌, flat_map, range_with_len}
use Rattle.script_text.specs.Diff.{line_at}
use Rattle.script_text.proofs.diff.push_lines.Given as goal

abbrev pub invariant-loop-place : goal.invariant-loop-place
invariant-loop-place l =
    l.text.items ≡ l.fn.text.items ++ flat_map (line_at l.changes) (range_with_len 0 l.place)
