use Rattle.play_core.proofs.Common.{rules}
use Rattle.play_core.proofs.Tails.{line_spelled}
use Rattle.play_core.proofs.answer_line.push_line.Goals as goal

pub returns-clause-text : goal.returns-clause-text
returns-clause-text g c = search (rules, line_spelled)
