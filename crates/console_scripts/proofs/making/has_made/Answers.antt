use Rattle.console_scripts.proofs.Makers.{lacks-made}
use Rattle.console_scripts.proofs.making.has_made.Goals as goal

pub returns-else-is_in_slot : goal.returns-else-is_in_slot
returns-else-is_in_slot c =
    λ no.
    lacks-made c.args.map.now c.args.accent c.args.character c.args.key c.get.result c.get-else-is_in_slot.result
    c.get.ensures.same c.get-else-is_in_slot.ensures.same (c.is_in_slot.ensures c.if-is_in_slot.false)
    (c.is_in_slot-else-is_in_slot.ensures no)
