use Rattle.console_scripts.proofs.Common.{◌≡◌, ◌∙◌, reverse, subst, sym, Sight, Contains, between, origin_in}
use Rattle.console_scripts.proofs.Common.{MatchOption, resting_after}
use Rattle.std.proofs.lemmas.Result.{IfOk-weaker}
use Rattle.console_scripts.specs.Visiting.{CannotSee, IsOnward}
use Rattle.console_scripts.proofs.Scrolling.{shown-resting}
use Rattle.console_scripts.proofs.onward.find_onward.Goals as goal

pub go_onward-requires-clause-explored : goal.go_onward-requires-clause-explored
go_onward-requires-clause-explored g c = c.in_ok-explored.ensures.0

pub returns : goal.returns
returns g c =
    let m = c.args.map.now in
    let e = c.in_ok-explored.explored in
    let xs = c.args.sights.now in
    let (x, same, from) = c.in_ok-explored.ensures in
    IfOk-weaker c.go_onward.result _ _
    (λ found told h stands none.
    let rests : origin_in e ≡ resting_after m h =
    from ∙ c.free.ensures.value
    ∙ shown-resting m h (g.T.Translator.shows_locked c.args.console.now)
    (λ l. g.met.T.Translator.locked_where_it_stands c.args.console.now (between m m) h stands l) in
    subst
    (λ n. MatchOption found ((y : Sight) → Contains xs y → CannotSee n h y)
    (λ events. IsOnward n h xs (reverse events.items))) same
    (told h (subst (λ n. origin_in e ≡ resting_after n h) (sym same) rests)
    (g.met.T.Translator.keys_where_it_stands c.args.console.now (between m m) h stands) none))
    c.go_onward.ensures
