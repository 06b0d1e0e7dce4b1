use Rattle.keymap_core.proofs.Common.{refl, rules}
use Rattle.keymap_core.proofs.Taking.{Appends-slice, within-slice}
use Rattle.keymap_core.proofs.transfer.put.Goals as goal

pub loop-done-preserved : goal.loop-done-preserved
loop-done-preserved g c = search (rules, within-slice, Appends-slice)

pub returns-in-Err-clause-bytes : goal.returns-in-Err-clause-bytes
returns-in-Err-clause-bytes g c = (c.loop-done.done, c.loop-done-test.true, refl, search rules)
