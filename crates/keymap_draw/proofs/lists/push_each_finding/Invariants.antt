use Rattle.keymap_draw.proofs.Common.{◌≡◌, ◌++◌, drop, numbered, listed_finding}
use Rattle.keymap_draw.proofs.lists.push_each_finding.Given as goal

abbrev pub invariant-loop-i : goal.invariant-loop-i
invariant-loop-i l =
    l.sheet ++ numbered (listed_finding l.y) l.i (drop l.i l.findings)
    ≡ l.fn.sheet ++ numbered (listed_finding l.y) 0 l.findings
