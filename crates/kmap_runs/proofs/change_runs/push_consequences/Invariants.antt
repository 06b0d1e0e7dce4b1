use Rattle.kmap_runs.proofs.Common.{◌≤◌, length}
use Rattle.kmap_runs.proofs.change_runs.push_consequences.Given as goal

abbrev pub invariant-loop-words : goal.invariant-loop-words
invariant-loop-words l = length l.fn.lines.items ≤ length l.lines.items
