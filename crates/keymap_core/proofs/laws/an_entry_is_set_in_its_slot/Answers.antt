use Rattle.keymap_core.proofs.Common.{rules}
use Rattle.keymap_core.proofs.Placing.{placed-here, placed-other, placed-length}
use Rattle.keymap_core.proofs.laws.an_entry_is_set_in_its_slot.Goals as goal

pub returns : goal.returns
returns c = search (rules, placed-here, placed-other, placed-length)
