use Rattle.play_core.proofs.Common.{rules}
use Rattle.play_core.proofs.Tails.{tail_spelled}
use Rattle.play_core.proofs.tail.push_tail.Goals as goal

pub returns-clause-text : goal.returns-clause-text
returns-clause-text g c = search (rules, tail_spelled)
