use Rattle.play_core.proofs.Common.{rules}
use Rattle.play_core.proofs.ScriptLines.{first_part, last_part}
use Rattle.play_core.proofs.words.split_line.Goals as goal

pub returns-in-Some-clause-parts : goal.returns-in-Some-clause-parts
returns-in-Some-clause-parts c = search (rules, first_part)

pub returns-in-None-clause-parts : goal.returns-in-None-clause-parts
returns-in-None-clause-parts c = last_part c.args.text.now c.in-None.ensures.place
