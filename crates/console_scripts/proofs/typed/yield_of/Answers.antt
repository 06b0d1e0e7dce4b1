use Rattle.std.proofs.Common.{rules}
use Rattle.console_scripts.proofs.Tapping.{lists-typed}
use Rattle.console_scripts.proofs.typed.yield_of.Goals as goal

pub given_by-given-requires : goal.given_by-given-requires
given_by-given-requires c = search rules

pub returns : goal.returns
returns c = search (rules, lists-typed)
