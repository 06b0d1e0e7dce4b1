use Rattle.kmap_runs.proofs.Common.{◌≡◌, ◌≤◌, ◌++◌, ◌-◌, true, length, drop, AreEnds, lines_from}
use Rattle.kmap_runs.proofs.typing.push_keyed.Given as goal

-- what is written and what is left to write are all lines
abbrev pub invariant-loop-i : goal.invariant-loop-i
invariant-loop-i l = record {
  inside : l.i ≤ length l.keyed;
  within : l.from ≤ length l.events;
  ends : AreEnds l.from (drop l.i l.keyed) (length l.events);
  whole : l.text.items ++ lines_from l.starts l.from (drop l.from l.events) (drop l.i l.keyed)
      ≡ l.fn.text.items ++ lines_from true 0 l.events l.keyed;
}

abbrev pub decreases-loop-i : goal.decreases-loop-i
decreases-loop-i l = length l.keyed - l.i
