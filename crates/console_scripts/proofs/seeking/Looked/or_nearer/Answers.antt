use Rattle.std.proofs.Common.{rules}
use Rattle.console_scripts.proofs.Picking.{looked-nearer}
use Rattle.console_scripts.proofs.seeking.Looked.or_nearer.Goals as goal

pub returns : goal.returns
returns c = search (rules, looked-nearer)
