use Rattle.script_text.proofs.Counted.{counted_are_told, left_out_cannot_be_visited}
use Rattle.script_text.proofs.laws.counted_sights_are_told.Goals as goal

pub returns-clause-told : goal.returns-clause-told
returns-clause-told c = counted_are_told

pub returns-clause-left_out : goal.returns-clause-left_out
returns-clause-left_out c = left_out_cannot_be_visited
