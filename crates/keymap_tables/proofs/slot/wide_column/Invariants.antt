use Rattle.keymap_tables.proofs.Common.{ℕ, ◌<◌, ◌≤◌, character_in}
use Rattle.keymap_tables.proofs.slot.wide_column.Given as goal

-- The characters so far fit.
abbrev pub invariant-loop-column : goal.invariant-loop-column
invariant-loop-column l = (k : ℕ) → k < l.column → character_in l.entry k ≤ 255
