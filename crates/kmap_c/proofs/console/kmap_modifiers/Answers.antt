use Rattle.kmap_c.proofs.Common.{sym, ◌∙◌, arith, map, between, event_of}
use Rattle.kmap_c.proofs.Calls.{held, follows}
use Rattle.kmap_c.proofs.Numbers.{none-set, up_down}
use Rattle.kmap_c.proofs.console.kmap_modifiers.Goals as goal

pub returns-clause-never_sticks : goal.returns-clause-never_sticks
returns-clause-never_sticks c =
    λ first second numbers a b was i on.
    held c.headline_holds.ensures first second numbers a b i
    (sym (c.modifiers_kept.ensures (between a.0 b.0) (map event_of numbers) (was a.0 b.0 a.1 b.1 a.2 b.2) i) ∙ on)

pub returns-clause-all_up : goal.returns-clause-all_up
returns-clause-all_up c =
    λ first second numbers a b was up.
    none-set c.modifiers_kept.result (omega (arith, c.modifiers_kept.type_inv)) (λ i on.
    let key = held c.headline_holds.ensures first second numbers a b i
    (sym (c.modifiers_kept.ensures (between a.0 b.0) (map event_of numbers) (was a.0 b.0 a.1 b.1 a.2 b.2) i) ∙ on) in
    up_down _ (up key.0 key.1) key.2)

pub returns-clause-exactly_while : goal.returns-clause-exactly_while
returns-clause-exactly_while c =
    λ first second numbers a b was i k throughout.
    c.modifiers_kept.ensures (between a.0 b.0) (map event_of numbers) (was a.0 b.0 a.1 b.1 a.2 b.2) i
    ∙ follows c.headline_holds.ensures first second numbers a b i k throughout
