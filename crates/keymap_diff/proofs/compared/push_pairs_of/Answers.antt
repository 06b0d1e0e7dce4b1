use Rattle.std.proofs.Common.{rules}
use Rattle.keymap_diff.proofs.Bases.{bases-all}
use Rattle.keymap_diff.proofs.compared.push_pairs_of.Goals as goal

pub returns : goal.returns
returns c = search (rules, bases-all)
