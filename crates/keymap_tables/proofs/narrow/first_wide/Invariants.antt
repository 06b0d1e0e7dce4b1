use Rattle.keymap_tables.proofs.Common.{ℕ, ◌<◌, narrow}
use Rattle.std.specs.Prelude.{slice_index_or}
use Rattle.keymap_tables.proofs.narrow.first_wide.Given as goal

-- The rows so far fit.
abbrev pub invariant-loop-index : goal.invariant-loop-index
invariant-loop-index g l =
    (i : ℕ) → i < l.index → g.R.Row.Fits narrow (slice_index_or (g.R.Row.rows l.map) i g.R.Row.blank)
