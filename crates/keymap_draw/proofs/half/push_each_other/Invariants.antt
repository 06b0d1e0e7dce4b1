use Rattle.keymap_draw.proofs.Common.{◌≡◌, ◌++◌, drop, numbered, other_key}
use Rattle.keymap_draw.proofs.half.push_each_other.Given as goal

abbrev pub invariant-loop-i : goal.invariant-loop-i
invariant-loop-i l =
    l.sheet ++ numbered (other_key l.drawing l.half l.y) l.i (drop l.i l.keys)
    ≡ l.fn.sheet ++ numbered (other_key l.drawing l.half l.y) 0 l.keys
