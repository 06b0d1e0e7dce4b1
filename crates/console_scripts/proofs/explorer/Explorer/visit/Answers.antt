use Rattle.console_scripts.proofs.Common.{◌≡◌, ◌∙◌, ◌++◌, subst, sym, reverse, between, state_of}
use Rattle.console_scripts.proofs.Common.{HasNoLoads, HasRoute, CanVisit, map_of_explored, List, Event}
use Rattle.console_scripts.specs.Visiting.{IsNearHome, IsVisit, resting_after}
use Rattle.console_scripts.proofs.Aiming.{route-reached}
use Rattle.console_scripts.proofs.Scrolling.{shown-resting}
use Rattle.console_scripts.proofs.explorer.Explorer.visit.Goals as goal

pub returns-in_default : goal.returns-in_default
returns-in_default g c =
    subst
    (λ p. (h : List Event) → g.T.Translator.stands c.args.console.now (between p.map p.map) h → HasNoLoads h
    → IsNearHome p.map h → CanVisit p.map c.args.sight → ⊥) c.self.view_is
    (λ h stands none near. c.in_default.ensures)

pub returns-then-not-has_route : goal.returns-then-not-has_route
returns-then-not-has_route g c =
    let e = c.self.inside.explored in
    let m = map_of_explored e in
    subst
    (λ p. (h : List Event) → g.T.Translator.stands c.args.console.now (between p.map p.map) h → HasNoLoads h
    → IsNearHome p.map h → CanVisit p.map c.args.sight → ⊥) c.self.view_is
    (λ h stands none (can, home).
    let rests : state_of c.free-from.result ≡ resting_after m h =
    c.free-from.ensures.value
    ∙ shown-resting m h (g.T.Translator.shows_locked c.args.console.now)
    (λ l. g.met.T.Translator.locked_where_it_stands c.args.console.now (between m m) h stands l) in
    absurd (c.has_route.ensures.none c.if-not-has_route.true
    (subst (λ s. HasRoute e.routes.entries s) (sym rests)
    (route-reached e c.self.invariant (resting_after m h) can home))))

pub events_of-requires-clause-from : goal.events_of-requires-clause-from
events_of-requires-clause-from g c = c.has_route.ensures.has c.if-not-has_route.false

pub returns : goal.returns
returns g c =
    let e = c.self.inside.explored in
    let m = map_of_explored e in
    let events = c.in_ok-events.events.items in
    subst
    (λ p. (h : List Event) → g.T.Translator.stands c.args.console.now (between p.map p.map) h → HasNoLoads h
    → IsNearHome p.map h
    → IsVisit p.map h c.args.sight (reverse events) × IsNearHome p.map (reverse events ++ h)) c.self.view_is
    (λ h stands none near.
    let rests : state_of c.free-from.result ≡ resting_after m h =
    c.free-from.ensures.value
    ∙ shown-resting m h (g.T.Translator.shows_locked c.args.console.now)
    (λ l. g.met.T.Translator.locked_where_it_stands c.args.console.now (between m m) h stands l) in
    let keys = g.met.T.Translator.keys_where_it_stands c.args.console.now (between m m) h stands in
    subst (λ x. IsVisit m h x (reverse events) × IsNearHome m (reverse events ++ h)) c.in-Some.ensures.1
    (c.in_ok-events.ensures h rests keys none))
