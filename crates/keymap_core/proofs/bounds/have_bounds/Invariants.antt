use Rattle.std.proofs.Common.{All, take}
use Rattle.keymap_core.proofs.bounds.have_bounds.Given as goal

-- What is known of the values so far.
abbrev pub invariant-loop-value : goal.invariant-loop-value
invariant-loop-value g l = All g.T.Bounded.Is (take l.value-index l.values)
