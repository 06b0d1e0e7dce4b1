use Rattle.keymap_cover.proofs.Counting.{counts_are_of_verdicts, nothing_is_left_out}
use Rattle.keymap_cover.proofs.laws.counts_are_of_verdicts.Goals as goal

pub returns-clause-verdicts : goal.returns-clause-verdicts
returns-clause-verdicts c = counts_are_of_verdicts

pub returns-clause-left_out : goal.returns-clause-left_out
returns-clause-left_out c = nothing_is_left_out
