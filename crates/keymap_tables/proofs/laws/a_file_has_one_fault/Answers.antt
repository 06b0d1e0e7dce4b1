use Rattle.keymap_tables.proofs.ReadingLaws.{one-fault}
use Rattle.keymap_tables.specs.Faults.{fault_at}
use Rattle.keymap_tables.proofs.laws.a_file_has_one_fault.Goals as goal

pub returns : goal.returns
returns c = λ l bytes. one-fault (fault_at l bytes)
