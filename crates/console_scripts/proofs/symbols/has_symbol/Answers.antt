use Rattle.console_scripts.proofs.Lacking.{lacks}
use Rattle.console_scripts.proofs.symbols.has_symbol.Goals as goal

pub returns-else-is_in_slot : goal.returns-else-is_in_slot
returns-else-is_in_slot c =
    λ no.
    lacks c.args.map.now c.args.symbol c.args.key c.get.result c.get-else-is_in_slot.result c.get.ensures.same
    c.get-else-is_in_slot.ensures.same (c.is_in_slot.ensures c.if-is_in_slot.false)
    (c.is_in_slot-else-is_in_slot.ensures no)
