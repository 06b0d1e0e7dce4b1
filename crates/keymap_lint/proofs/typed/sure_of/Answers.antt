use Rattle.keymap_lint.proofs.Ways.{base_way, left_alt, left_shift, right_alt, right_shift}
use Rattle.keymap_lint.proofs.typed.sure_of.Goals as goal

pub mark_all-requires-clause-way : goal.mark_all-requires-clause-way
mark_all-requires-clause-way c = base_way c.args.map.now

pub mark_held-requires-clause-selects : goal.mark_held-requires-clause-selects
mark_held-requires-clause-selects c = left_shift

pub mark_held-requires-2-clause-selects : goal.mark_held-requires-2-clause-selects
mark_held-requires-2-clause-selects c = right_shift

pub mark_held-requires-3-clause-selects : goal.mark_held-requires-3-clause-selects
mark_held-requires-3-clause-selects c = left_alt

pub mark_held-requires-4-clause-selects : goal.mark_held-requires-4-clause-selects
mark_held-requires-4-clause-selects c = right_alt

pub mark_all-requires-clause-sure : goal.mark_all-requires-clause-sure
mark_all-requires-clause-sure c = c.none-sure.ensures c.args.map.now
