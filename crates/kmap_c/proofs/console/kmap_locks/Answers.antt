use Rattle.kmap_c.proofs.Common.{◌∙◌, map, between, event_of}
use Rattle.kmap_c.proofs.Calls.{counts}
use Rattle.kmap_c.proofs.console.kmap_locks.Goals as goal

pub returns-clause-fresh_presses : goal.returns-clause-fresh_presses
returns-clause-fresh_presses c =
    λ first second numbers a b was loads l k throughout.
    c.locks_kept.ensures.bits (between a.0 b.0) (map event_of numbers) (was a.0 b.0 a.1 b.1 a.2 b.2) l
    ∙ counts c.locks_count_fresh_presses.ensures first second numbers a b l k loads throughout
