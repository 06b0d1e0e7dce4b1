use Rattle.keymap_tables.proofs.Common.{arith}
use Rattle.keymap_tables.proofs.slot.push_zeros.Goals as goal

pub returns-clause-count : goal.returns-clause-count
returns-clause-count g c = omega (arith, c.loop-image.invariant.short, c.loop-image-test.false, c.len.ensures.value)
