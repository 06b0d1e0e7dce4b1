use Rattle.console_scripts.proofs.Common.{◌<◌, ◌∙◌, alone, ap, get_or, length, sym, subst, state_of}
use Rattle.console_states.specs.Searching.{AreLedTo, IsLedTo}
use Rattle.console_scripts.proofs.few.few_places.Goals as goal

pub mark_plainly-requires : goal.mark_plainly-requires
mark_plainly-requires c =
    let i = c.loop-held.held-index in
    let e = c.deref-held-items.ensures.value in
    let led = subst (λ u. AreLedTo u c.in_ok-states.states.items) c.alone.ensures.alone c.in_ok-states.ensures.led in
    subst (λ h. IsLedTo (alone c.args.map.now) (state_of h))
    (sym (c.held-item.is ∙ ap (λ xs. get_or xs i c.held-item.result) e))
    (led i c.held-item.result (subst (λ xs. i < length xs) e c.loop-held-test.true))
