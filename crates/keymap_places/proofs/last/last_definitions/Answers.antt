use Rattle.keymap_places.proofs.Common.{take, refl, sym, subst, arith, take_all, take_more, HasLast, rules}
use Rattle.keymap_places.proofs.LastOf.{none_yet, all_slots, all_accents}
use Rattle.keymap_places.proofs.last.last_definitions.Goals as goal

pub loop-definition-init : goal.loop-definition-init
loop-definition-init c = none_yet _ refl refl

pub loop-definition-preserved : goal.loop-definition-preserved
loop-definition-preserved c =
    let ds = c.args.definitions.now in
    let i = c.loop-definition.definition-index in
    subst (HasLast c.put.new.last) (sym (take_more ds i _ (omega arith)))
    (c.put.ensures (take i ds) c.loop-definition.invariant)

pub returns-clause-slots : goal.returns-clause-slots
returns-clause-slots c = search (rules, all_slots, take_all)

pub returns-clause-accents : goal.returns-clause-accents
returns-clause-accents c = search (rules, all_accents, take_all)
