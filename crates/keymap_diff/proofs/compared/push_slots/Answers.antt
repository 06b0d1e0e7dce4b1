use Rattle.std.proofs.Common.{rules}
use Rattle.keymap_diff.proofs.Pushing.{places_step}
use Rattle.keymap_diff.proofs.compared.push_slots.Goals as goal

pub loop-place-preserved : goal.loop-place-preserved
loop-place-preserved c = search (rules, places_step)
