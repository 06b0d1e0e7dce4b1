use Rattle.kmap_runs.proofs.Common.{◌≤◌, length}
use Rattle.kmap_runs.proofs.change_runs.push_differences.Given as goal

abbrev pub invariant-loop-line : goal.invariant-loop-line
invariant-loop-line l = length l.fn.lines.items ≤ length l.lines.items
