use Rattle.keymap_draw.proofs.Common.{◌≡◌, ◌++◌, drop, numbered, silent_name}
use Rattle.keymap_draw.proofs.lists.push_each_silent.Given as goal

abbrev pub invariant-loop-i : goal.invariant-loop-i
invariant-loop-i l =
    l.sheet ++ numbered silent_name l.i (drop l.i l.accents)
    ≡ l.fn.sheet ++ numbered silent_name 0 l.accents
