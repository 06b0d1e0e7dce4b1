use Rattle.console_states.proofs.Common.{None, Exchange, with_holder, moved, state_of, under_of, IsMetBy}
use Rattle.console_states.proofs.Growing.{added-again, met-grows}
use Rattle.console_states.proofs.Searching.{frees-met, steps-to}
use Rattle.console_states.proofs.search.meet_frees.Goals as goal

pub returns-clause-met : goal.returns-clause-met
returns-clause-met c =
    let u = under_of c.args.maps.now in
    let s = state_of c.args.held.now in
    let p = c.args.presses in
    let now = c.meet.new.met.entries in
    frees-met u now p s
    (λ k i holds. met-grows c.meet_let_gos.new.met.entries now p (with_holder s i None) c.in_ok-meet.ensures.grown
    (c.in_ok-meet_let_gos.ensures.met k i holds))
    (λ is. steps-to (IsMetBy now p) c.exchange.result (moved u s Exchange) (c.exchange.ensures.leads is)
    c.in_ok-meet.ensures.met)

pub returns-clause-added : goal.returns-clause-added
returns-clause-added c =
    let u = under_of c.args.maps.now in
    added-again u (state_of c.args.held.now) c.args.place 0 c.args.presses c.args.met.now.entries
    c.meet_let_gos.new.met.entries c.meet.new.met.entries (c.in_ok-meet_let_gos.ensures.added u)
    (c.in_ok-meet.ensures.added u c.args.held.now 0 c.exchange.ensures.step)
