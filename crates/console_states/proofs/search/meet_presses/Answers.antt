use Rattle.console_states.proofs.Common.{get_or, length, subst, refl, below_more, arith, get_or_read_under, state_of}
use Rattle.console_states.proofs.Common.{under_of, PressesLead, StepsTo, IsMetBy}
use Rattle.console_states.proofs.Growing.{added-again, met-grows}
use Rattle.console_states.proofs.KeyLists.{all-pressed}
use Rattle.console_states.proofs.Searching.{presses-map, presses-met, steps-to}
use Rattle.console_states.proofs.search.meet_presses.Goals as goal

pub loop-key-preserved : goal.loop-key-preserved
loop-key-preserved c =
    let u = under_of c.args.maps.now in
    let es = c.loop-key.met.entries in
    let now = c.meet.new.met.entries in
    let p = c.args.presses in
    let s = state_of c.args.from.held in
    let keys = c.args.keys.now in
    record {
      within = c.in_ok-meet.ensures.within;
      met =
          below_more _ _
          (λ j lt. presses-map (IsMetBy es p) (IsMetBy now p)
          (λ t there. met-grows es now p t c.in_ok-meet.ensures.grown there) u s (get_or keys j 0)
          (c.loop-key.invariant.met j lt))
          (subst (λ k. PressesLead u s k (IsMetBy now p))
          (get_or_read_under keys c.loop-key.key-index (length keys) c.key-item.result 0 c.key-item.is
          c.loop-key-test.true refl)
          (presses-map (StepsTo c.pressed.result) (IsMetBy now p)
          (λ t to. steps-to (IsMetBy now p) c.pressed.result t to c.in_ok-meet.ensures.met) u s c.key-item.result
          c.pressed.ensures.leads));
      added =
          added-again u s c.args.from.place 1 p c.args.met.now.entries es now c.loop-key.invariant.added
          (c.in_ok-meet.ensures.added u c.args.from.held 1 c.pressed.ensures.step);
    }

pub returns-clause-met : goal.returns-clause-met
returns-clause-met c =
    let u = under_of c.args.maps.now in
    let s = state_of c.args.from.held in
    let met = IsMetBy c.loop-key.met.entries c.args.presses in
    presses-met u c.loop-key.met.entries c.args.presses s
    (all-pressed met u s c.args.keys.now 128 c.requires.keys
    (λ j lt. c.loop-key.invariant.met j (omega (arith, lt, c.loop-key-test.false))))
