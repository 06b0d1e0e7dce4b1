use Rattle.play_core.proofs.Common.{rules}
use Rattle.play_core.proofs.Texts.{line_of_one, bytes_of_one}
use Rattle.play_core.proofs.player.play_event.Goals as goal

pub returns-in-Lines-clause-text : goal.returns-in-Lines-clause-text
returns-in-Lines-clause-text g c = search (rules, line_of_one)

pub returns-in-Typed-clause-text : goal.returns-in-Typed-clause-text
returns-in-Typed-clause-text g c = search (rules, bytes_of_one)
