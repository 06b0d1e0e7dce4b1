use Rattle.play_core.proofs.Verdicts.{one_list, one_fault, not_both, one_of_them}
use Rattle.play_core.proofs.laws.one_reading.Goals as goal

pub returns : goal.returns
returns c = record { one_list = one_list; one_fault = one_fault; not_both = not_both; one_of_them = one_of_them }
