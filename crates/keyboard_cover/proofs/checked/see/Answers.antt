use Rattle.std.proofs.Common.{◌≡◌, ◌∷◌, subst, sym, rules}
use Rattle.console_core.specs.declared.event.Event.TheVariants as event
use Rattle.console_core.specs.History.{between}
use Rattle.keymap_cover.specs.ScriptEvents.{event_of}
use Rattle.keyboard_cover.specs.Covering.{Knows}
use Rattle.keyboard_cover.proofs.Covering.{knows-other, knows-press}
use Rattle.keyboard_cover.proofs.checked.see.Goals as goal

pub returns-in-Up : goal.returns-in-Up
returns-in-Up g c = λ h at knows.
    let m = c.args.map.now in
    let e = event.Release c.in-Up.key in
    subst (λ x. g.T.Translator.stands c.step.new.self (between m m) (event_of x ∷ h)
    × Knows m c.args.seen.now (event_of x ∷ h)) (sym c.in-Up.is)
    (c.step.ensures.next (between m m) h at, knows-other m c.args.seen.now h e (λ k same. cc) knows)

pub returns-in-Reset : goal.returns-in-Reset
returns-in-Reset g c = λ h at knows.
    let m = c.args.map.now in
    subst (λ x. g.T.Translator.stands c.step-in-Reset.new.self (between m m) (event_of x ∷ h)
    × Knows m c.args.seen.now (event_of x ∷ h)) (sym c.in-Reset.is) (
      c.step-in-Reset.ensures.next (between m m) h at,
      knows-other m c.args.seen.now h event.Reset (λ k same. cc) knows,
    )

pub returns-in_ok-add_sights-in-Down : goal.returns-in_ok-add_sights-in-Down
returns-in_ok-add_sights-in-Down g c = λ h at knows.
    let m = c.args.map.now in
    let k = c.in-Down.key in
    let made : event_of c.args.event.now ≡ event.Press k = search (rules) in
    subst (λ e. g.T.Translator.stands c.step-in-Down.new.self (between m m) (e ∷ h)
    × Knows m c.add_sights.new.self (e ∷ h)) (sym made) (
      c.step-in-Down.ensures.next (between m m) h at,
      knows-press m c.args.seen.now c.add_sights.new.self h k knows (c.in_ok-add_sights-in-Down.ensures h at),
    )
