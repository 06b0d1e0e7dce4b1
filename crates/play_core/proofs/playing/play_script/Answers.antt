use Rattle.play_core.proofs.Common.{err_from_is_err_and, Keeps-refl, rules}
use Rattle.play_core.proofs.playing.play_script.Goals as goal

pub returns-in_err-sent-clause-run : goal.returns-in_err-sent-clause-run
returns-in_err-sent-clause-run g c = search (rules, err_from_is_err_and, Keeps-refl)

pub returns-clause-run : goal.returns-clause-run
returns-clause-run g c = search rules
