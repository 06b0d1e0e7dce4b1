use Rattle.std.proofs.Common.{rules}
use Rattle.keymap_cover.proofs.Common.{[], refl, inr, sym, reverse, subst, ◌∙◌, between, GoesAlongToRest}
use Rattle.std.proofs.Common.{MatchOption}
use Rattle.keymap_core.specs.declared.action.Lock.TheVariants.{Scroll}
use Rattle.console_scripts.specs.Visiting.{CannotScroll, TurnsScrollOff}
use Rattle.keymap_cover.proofs.Showing.{script-loads, walks-off}
use Rattle.keymap_cover.proofs.scroll.turn_scroll_off.Goals as goal

pub returns-then-not-locked : goal.returns-then-not-locked
returns-then-not-locked g c = search rules

pub returns-in_default : goal.returns-in_default
returns-in_default g c =
    λ h w.
    let m = c.args.map.now in
    let shown = g.met.T.Translator.locked_where_it_stands c.args.script.now.console (between m m) h w.0.0 Scroll in
    let told = c.in_ok-events.ensures h w.0.0 (script-loads m h c.args.script.now w.0.1)
    (sym shown ∙ sym c.locked.ensures ∙ c.if-not-locked.false) in (
      h,
      w,
      ([], refl),
      inr (subst (λ o. MatchOption o (CannotScroll m h) (λ events. TurnsScrollOff m h (reverse events.items)))
          c.in_default.is told),
    )

pub returns-in_ok-walk : goal.returns-in_ok-walk
returns-in_ok-walk g c =
    λ h w.
    let m = c.args.map.now in
    let s = g.T.Translator.stands in
    let a = c.args.script.now in
    let shown = g.met.T.Translator.locked_where_it_stands a.console (between m m) h w.0.0 Scroll in
    let told = c.in_ok-events.ensures h w.0.0 (script-loads m h a w.0.1)
    (sym shown ∙ sym c.locked.ensures ∙ c.if-not-locked.false) in
    walks-off s m (reverse c.in-Some.events.items) h a c.walk.new.self w.0
    (subst (λ xs. GoesAlongToRest m (reverse xs) s a c.walk.new.self) c.deref.ensures.value c.in_ok-walk.ensures.along)
    c.in_ok-walk.ensures.up
    (subst (λ o. MatchOption o (CannotScroll m h) (λ events. TurnsScrollOff m h (reverse events.items))) c.in-Some.is
    told)
