use Rattle.std.proofs.Common.{rules}
use Rattle.keymap_diff.proofs.Pushing.{places-both}
use Rattle.keymap_diff.proofs.compared.push_accents.Goals as goal

pub loop-accent-preserved : goal.loop-accent-preserved
loop-accent-preserved c = search (rules, places-both)
