use Rattle.keymap_draw.proofs.Common.{rules}
use Rattle.keymap_draw.proofs.Loops.{passing-below}
use Rattle.keymap_draw.proofs.lists.silent_accents.Goals as goal

pub returns-clause-known : goal.returns-clause-known
returns-clause-known c = search (rules, passing-below)
