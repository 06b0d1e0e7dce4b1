use Rattle.console_scripts.proofs.Common.{◌≡◌, ◌<◌, ℕ, arith, subst}
use Rattle.console_scripts.proofs.Marking.{gains-more, gains-first, gains-whole}
use Rattle.console_scripts.proofs.Tapping.{marked-given}
use Rattle.console_scripts.specs.Inner.Places.{Gains}
use Rattle.console_scripts.specs.Inner.Tapped.{GivesAt, HasCode}
use Rattle.console_scripts.proofs.typed.given_by.Goals as goal

pub loop-place-init : goal.loop-place-init
loop-place-init c = gains-first (HasCode c.no_codes-given.result) _ c.no_codes-given.ensures

pub loop-place-preserved : goal.loop-place-preserved
loop-place-preserved c =
    gains-more (λ z. ⊥) (HasCode c.loop-place.given) _ _ c.loop-place.place c.loop-place.invariant c.give_at.ensures

pub returns : goal.returns
returns c =
    let e : c.loop-place.place ≡ 2048 = omega (arith, c.loop-place-test.false, c.loop-place.auto.place-end) in
    marked-given c.args.map.now c.args.marks.now c.loop-place.given c.requires
    (gains-whole (HasCode c.loop-place.given) _ (subst (λ n. Gains (λ z. ⊥) (HasCode c.loop-place.given)
    (λ z. (p : ℕ) × (p < n) × GivesAt c.args.map.now c.args.marks.now p z)) e c.loop-place.invariant))
