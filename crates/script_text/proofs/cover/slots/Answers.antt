use Rattle.script_text.proofs.Common.{arith, subst, sym, ListsSlots, is_in}
use Rattle.script_text.proofs.cover.slots.Goals as goal

pub loop-first-init : goal.loop-first-init
loop-first-init c =
    let l = c.args.listing.now in
    (omega arith, subst (ListsSlots (is_in l) l.word.now 0) (sym c.new-text.ensures.items) ListsSlots.no_slot)
