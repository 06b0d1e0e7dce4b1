use Rattle.keymap_draw.proofs.Common.{◌≡◌, ◌++◌, drop, numbered, listed_accent}
use Rattle.keymap_draw.proofs.lists.push_each_accent.Given as goal

abbrev pub invariant-loop-i : goal.invariant-loop-i
invariant-loop-i l =
    l.sheet ++ numbered (listed_accent l.drawing l.y) l.i (drop l.i l.accents)
    ≡ l.fn.sheet ++ numbered (listed_accent l.drawing l.y) 0 l.accents
