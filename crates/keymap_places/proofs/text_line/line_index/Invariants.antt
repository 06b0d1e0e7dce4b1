use Rattle.keymap_places.proofs.Common.{◌≤◌, ◌<◌, ◌-◌, length, get_or}
use Rattle.keymap_places.proofs.text_line.line_index.Given as goal

abbrev pub invariant-loop-high : goal.invariant-loop-high
invariant-loop-high l = record {
  order : l.low < l.high;
  inside : l.high ≤ length l.starts;
  begins : get_or l.starts l.low 0 ≤ l.place;
  next : l.high < length l.starts → l.place < get_or l.starts l.high 0;
}

abbrev pub decreases-loop-high : goal.decreases-loop-high
decreases-loop-high l = l.high - l.low
