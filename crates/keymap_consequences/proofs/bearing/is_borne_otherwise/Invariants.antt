-- the keys before this one bear it alike
use Rattle.keymap_consequences.proofs.Common.{ℕ, ◌<◌}
use Rattle.std.specs.Prelude.{◌↔◌}
use Rattle.keymap_core.specs.Bearers.{Bears}
use Rattle.keymap_consequences.proofs.bearing.is_borne_otherwise.Given as goal

abbrev pub invariant-loop-code : goal.invariant-loop-code
invariant-loop-code l = (k : ℕ) → k < l.code → Bears l.old.map.now k l.holding ↔ Bears l.new.map.now k l.holding
