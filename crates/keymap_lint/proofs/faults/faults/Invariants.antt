use Rattle.keymap_lint.proofs.Common.{◌≡◌, ◌++◌, ◌≤◌, List, length, take}
use Rattle.std.proofs.Common.{◌-◌, ◌==◌, count_by}
use Rattle.keymap_lint.specs.Faults.{AreFaults}
use Rattle.keymap_lint.specs.Types.{PlacedFault}
use Rattle.keymap_lint.proofs.faults.faults.Given as goal

-- with the faults behind the last line the list is that of the text
abbrev pub invariant-loop-alloc : goal.invariant-loop-alloc
invariant-loop-alloc l = record {
  few : length l.faults.items ≤ 21;
  lines : l.start ≤ length l.text → l.lines ≡ count_by (λ c. c == 10) (take l.start l.text);
  goes_on :
      (more : List PlacedFault) → AreFaults (21 - length l.faults.items) l.text l.start more
      → AreFaults 21 l.text 0 (l.faults.items ++ more);
}

abbrev pub decreases-loop-alloc : goal.decreases-loop-alloc
decreases-loop-alloc l = 21 - length l.faults.items
