use Rattle.keymap_tables.proofs.ReadingLaws.{reading-fault}
use Rattle.keymap_tables.proofs.laws.reading_a_fault_gives_it.Goals as goal

pub returns : goal.returns
returns c = λ l bytes f r fault reading. reading-fault l bytes r reading f fault
