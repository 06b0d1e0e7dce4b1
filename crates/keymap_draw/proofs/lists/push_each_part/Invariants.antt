use Rattle.keymap_draw.proofs.Common.{◌≡◌, ◌++◌, drop, numbered, part}
use Rattle.keymap_draw.proofs.lists.push_each_part.Given as goal

abbrev pub invariant-loop-i : goal.invariant-loop-i
invariant-loop-i l =
    l.sheet ++ numbered (part l.results) l.i (drop l.i l.pairs)
    ≡ l.fn.sheet ++ numbered (part l.results) 0 l.pairs
