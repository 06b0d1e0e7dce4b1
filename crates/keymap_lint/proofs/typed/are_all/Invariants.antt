use Rattle.keymap_lint.proofs.Common.{◌≡◌, ◌<◌, ◌≤◌, ℕ, true, false, get_or}
use Rattle.keymap_lint.proofs.typed.are_all.Given as goal

-- those so far are marked
abbrev pub invariant-loop-c : goal.invariant-loop-c
invariant-loop-c l = (k : ℕ) → 0x20 ≤ k → k < l.c → get_or l.sure k false ≡ true
