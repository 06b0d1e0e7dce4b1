use Rattle.keymap_lint_text.proofs.Common.{◌≡◌, ◌++◌, take, map, below}
use Rattle.keymap_lint_text.proofs.excerpt.push_below.Given as goal

abbrev pub invariant-loop-c : goal.invariant-loop-c
invariant-loop-c l = l.text.items ≡ l.fn.text.items ++ map below (take l.c-index l.characters)
