use Rattle.keymap_cover.proofs.Common.{◌++◌, refl, inl, inr, reverse, subst, CanVisit, GoesAlongToRest}
use Rattle.std.proofs.Common.{MatchOption}
use Rattle.console_scripts.specs.Visiting.{IsNearHome, IsVisit}
use Rattle.keymap_cover.proofs.Showing.{can-see, script-loads, stays-so, visit-goes}
use Rattle.keymap_cover.proofs.cover.show_left_out.Goals as goal

pub returns-then-not-is_left_out : goal.returns-then-not-is_left_out
returns-then-not-is_left_out g c =
    stays-so g.T.Translator.stands c.args.map.now c.args.script.now _
    (λ h w. (
      (λ can.
          c.is_left_out.ensures.none c.requires.sights c.if-not-is_left_out.true
          (can-see c.args.map.now c.args.sight can)),
      inl refl,
    ))

pub returns-in_default : goal.returns-in_default
returns-in_default g c =
    let m = c.args.map.now in
    let a = c.args.script.now in
    let x = c.args.sight in
    stays-so g.T.Translator.stands m a _
    (λ h w. (
      (λ can.
          absurd (subst
          (λ o. MatchOption o (CanVisit m x → ⊥)
          (λ events. IsVisit m h x (reverse events.items) × IsNearHome m (reverse events.items ++ h))) c.in_default.is
          ((rw c.requires.explorer at c.in_ok-events.ensures) h w.0.0.0 (script-loads m h a w.0.0.1) w.1) can)),
      inl refl,
    ))

pub returns : goal.returns
returns g c =
    let m = c.args.map.now in
    let s = g.T.Translator.stands in
    let a = c.args.script.now in
    let b = c.walk.new.self in
    let x = c.args.sight in
    let (can, unseen) = c.is_left_out.ensures.some c.requires.sights c.if-not-is_left_out.false in
    λ h w.
    let (f, v, after, saw) =
    visit-goes s m a b x (reverse c.in-Some.events.items)
    (λ k stands none near.
    subst (λ o. MatchOption o (CanVisit m x → ⊥) (λ events. IsVisit m k x (reverse events.items)
    × IsNearHome m (reverse events.items ++ k))) c.in-Some.is
    ((rw c.requires.explorer at c.in_ok-events.ensures) k stands none near))
    (subst (λ xs. GoesAlongToRest m (reverse xs) s a b) c.deref.ensures.value c.in_ok-walk.ensures.along)
    c.in_ok-walk.ensures.up can h w in
    (f, v, after, ((λ visit. saw), inr (x, refl, unseen, saw)))
