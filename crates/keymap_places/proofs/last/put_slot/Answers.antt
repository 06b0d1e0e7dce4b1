use Rattle.keymap_places.proofs.Common.{arith}
use Rattle.keymap_places.proofs.LastOf.{slot_put}
use Rattle.keymap_places.proofs.last.put_slot.Goals as goal

pub returns : goal.returns
returns c = λ ds h. slot_put c.args.last.now ds c.args.definition c.args.slot c.requires (omega arith) h
