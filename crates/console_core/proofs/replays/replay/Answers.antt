use Rattle.console_core.proofs.Common.{◌≡◌, ◌+◌, ◌∷◌, ◌++◌, [], take, ap, subst, sym, ◌∙◌, arith, reverse}
use Rattle.console_core.proofs.Common.{answers_to, HasKeys, is_locked_after}
use Rattle.std.proofs.lemmas.List.{take_all}
use Rattle.console_core.proofs.Headline.{headline-shown, repeats-kept}
use Rattle.console_core.proofs.FreshPresses.{locked_by_fresh_presses}
use Rattle.console_core.proofs.PlainLooks.{shown-plain}
use Rattle.console_core.proofs.Traps.{on_only_while_pressed_without_traps}
use Rattle.console_core.proofs.Deliveries.{take_event, answers_to-push, reverse-push, reverse-joined}
use Rattle.console_core.proofs.replays.replay.Goals as goal

pub loop-event-preserved : goal.loop-event-preserved
loop-event-preserved g c =
    let e : take (c.loop-event.event-index + 1) c.args.events.now
    ≡ take c.loop-event.event-index c.args.events.now ++ c.event-item.result ∷ [] =
    take_event _ _ _ c.event-item.is c.loop-event-test.true in
    record {
      room = omega arith;
      count = omega arith;
      answers =
          λ ms h s. rw (
            c.push_reserved.ensures.items,
            e,
            answers_to-push ms h (take c.loop-event.event-index c.args.events.now) c.event-item.result,
            c.loop-event.invariant.answers ms h s,
          )
          (ap (λ a. answers_to ms h (take c.loop-event.event-index c.args.events.now) ++ a ∷ [])
          (c.step.ensures.answer ms _ (c.loop-event.invariant.stands ms h s)));
      stands =
          λ ms h s. rw (e, reverse-push c.event-item.result (take c.loop-event.event-index c.args.events.now) h)
          (c.step.ensures.next ms _ (c.loop-event.invariant.stands ms h s));
    }

pub returns-clause-answers : goal.returns-clause-answers
returns-clause-answers g c =
    λ ms h s. let e : take c.loop-event.event-index c.args.events.now ≡ c.args.events.now =
    take_all _ _ c.loop-event-test.false in
    rw e at (c.loop-event.invariant.answers ms h s)

pub returns-clause-next : goal.returns-clause-next
returns-clause-next g c =
    λ ms h s. let e : take c.loop-event.event-index c.args.events.now ≡ c.args.events.now =
    take_all _ _ c.loop-event-test.false in
    rw e at (c.loop-event.invariant.stands ms h s)

pub returns-clause-headline : goal.returns-clause-headline
returns-clause-headline g c =
    λ ms h s.
    let e : take c.loop-event.event-index c.args.events.now ≡ c.args.events.now =
    take_all _ _ c.loop-event-test.false in
    let at : g.T.Translator.stands c.loop-event.console ms (reverse c.args.events.now ++ h) =
    rw e at (c.loop-event.invariant.stands ms h s) in
    headline-shown ms _ (g.met.T.Translator.keys_where_it_stands _ _ _ at)
    (g.T.Translator.shows_on c.loop-event.console) (g.T.Translator.shows_locked c.loop-event.console)
    (g.T.Translator.shows_pending c.loop-event.console) (λ i. g.met.T.Translator.on_where_it_stands _ _ _ at i)
    (λ l. g.met.T.Translator.locked_where_it_stands _ _ _ at l)
    (g.met.T.Translator.pending_where_it_stands _ _ _ at)

pub returns-clause-repeats_turn_no_steady_lock : goal.returns-clause-repeats_turn_no_steady_lock
returns-clause-repeats_turn_no_steady_lock g c =
    λ ms h s earlier repeats split are l steady.
    let e : take c.loop-event.event-index c.args.events.now ≡ c.args.events.now =
    take_all _ _ c.loop-event-test.false in
    let at : g.T.Translator.stands c.loop-event.console ms (reverse c.args.events.now ++ h) =
    rw e at (c.loop-event.invariant.stands ms h s) in
    let joined : reverse c.args.events.now ++ h ≡ reverse repeats ++ (reverse earlier ++ h) =
    rw split (reverse-joined earlier repeats h) in
    g.met.T.Translator.locked_where_it_stands _ _ _ at l ∙ ap (λ x. is_locked_after ms l x) joined
    ∙ repeats-kept ms l (reverse earlier ++ h) repeats steady
    (subst HasKeys joined (g.met.T.Translator.keys_where_it_stands _ _ _ at)) are

pub returns-clause-locked_by_fresh_presses : goal.returns-clause-locked_by_fresh_presses
returns-clause-locked_by_fresh_presses g c =
    λ ms h s l k first bearer.
    let e : take c.loop-event.event-index c.args.events.now ≡ c.args.events.now =
    take_all _ _ c.loop-event-test.false in
    let at : g.T.Translator.stands c.loop-event.console ms (reverse c.args.events.now ++ h) =
    rw e at (c.loop-event.invariant.stands ms h s) in
    g.met.T.Translator.locked_where_it_stands _ _ _ at l
    ∙ locked_by_fresh_presses ms _ (g.met.T.Translator.keys_where_it_stands _ _ _ at) l k first bearer

pub returns-clause-looks_plainly : goal.returns-clause-looks_plainly
returns-clause-looks_plainly g c =
    λ ms h s plain none k.
    let e : take c.loop-event.event-index c.args.events.now ≡ c.args.events.now =
    take_all _ _ c.loop-event-test.false in
    let at : g.T.Translator.stands c.loop-event.console ms (reverse c.args.events.now ++ h) =
    rw e at (c.loop-event.invariant.stands ms h s) in
    shown-plain ms _ none (g.met.T.Translator.keys_where_it_stands _ _ _ at) plain k
    (g.T.Translator.shows_on c.loop-event.console) (g.T.Translator.shows_locked c.loop-event.console)
    (λ i. g.met.T.Translator.on_where_it_stands _ _ _ at i) (λ l. g.met.T.Translator.locked_where_it_stands _ _ _ at l)

pub returns-clause-on_only_while_pressed_without_traps : goal.returns-clause-on_only_while_pressed_without_traps
returns-clause-on_only_while_pressed_without_traps g c =
    λ ms h s locks i free on.
    let e : take c.loop-event.event-index c.args.events.now ≡ c.args.events.now =
    take_all _ _ c.loop-event-test.false in
    let at : g.T.Translator.stands c.loop-event.console ms (reverse c.args.events.now ++ h) =
    rw e at (c.loop-event.invariant.stands ms h s) in
    on_only_while_pressed_without_traps ms _ (g.met.T.Translator.keys_where_it_stands _ _ _ at) locks i free
    (sym (g.met.T.Translator.on_where_it_stands _ _ _ at i) ∙ on)
