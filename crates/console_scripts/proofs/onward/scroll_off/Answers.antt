use Rattle.console_scripts.proofs.Common.{◌≡◌, ◌∙◌, true, reverse, subst, sym, Scroll, between, is_locked_after}
use Rattle.console_scripts.proofs.Common.{origin_in, MatchOption, CannotScroll, TurnsScrollOff, resting_after}
use Rattle.std.proofs.lemmas.Result.{IfOk-weaker}
use Rattle.console_scripts.proofs.Scrolling.{shown-resting}
use Rattle.console_scripts.proofs.onward.scroll_off.Goals as goal

pub go_turning-requires : goal.go_turning-requires
go_turning-requires g c = c.in_ok-explored.ensures.0

pub returns : goal.returns
returns g c =
    let m = c.args.map.now in
    let e = c.in_ok-explored.explored in
    let (x, same, from) = c.in_ok-explored.ensures in
    IfOk-weaker c.go_turning.result _ _
    (λ found told h stands none on.
    let rests : origin_in e ≡ resting_after m h =
    from ∙ c.free.ensures.value
    ∙ shown-resting m h (g.T.Translator.shows_locked c.args.console.now)
    (λ l. g.met.T.Translator.locked_where_it_stands c.args.console.now (between m m) h stands l) in
    subst (λ n. MatchOption found (CannotScroll n h) (λ events. TurnsScrollOff n h (reverse events.items))) same
    (told h (subst (λ n. origin_in e ≡ resting_after n h) (sym same) rests)
    (g.met.T.Translator.keys_where_it_stands c.args.console.now (between m m) h stands) none
    (subst (λ n. is_locked_after (between n n) Scroll h ≡ true) (sym same) on)))
    c.go_turning.ensures
