use Rattle.keymap_tables.proofs.Common.{ℕ, ◌<◌, ◌≤◌, number_in}
use Rattle.keymap_tables.proofs.accent.wide_number.Given as goal

-- The numbers so far fit.
abbrev pub invariant-loop-index : goal.invariant-loop-index
invariant-loop-index l = (k : ℕ) → k < l.index → number_in l.accent k ≤ 255
