use Rattle.keymap_tables.proofs.Common.{rules, arith, mul_comm, common_steps}
use Rattle.keymap_tables.proofs.Sizes.{row-next}
use Rattle.keymap_tables.proofs.Marks.{marks-next, small-next}
use Rattle.keymap_tables.proofs.Rows.{rows-written}
use Rattle.keymap_tables.proofs.SlotImages.{slot-written}
use Rattle.keymap_tables.proofs.slot.slot_image.Goals as goal

pub loop-cell-preserved : goal.loop-cell-preserved
loop-cell-preserved c = search (rules, common_steps, rows-written, row-next, marks-next, small-next)

pub returns-clause-bytes : goal.returns-clause-bytes
returns-clause-bytes c = grind (arith, common_steps, mul_comm, slot-written)
