use Rattle.keymap_cover.proofs.Common.{◌≡◌, ◌<◌, [], length, refl, false, subst, sym, ◌∙◌, arith, ◌∷◌, slice_set}
use Rattle.keymap_cover.proofs.Common.{has_seen, IsScript}
use Rattle.keymap_cover.proofs.Scripts.{script-up, up-not}
use Rattle.keymap_cover.proofs.Walking.{release-turns_none}
use Rattle.console_core.specs.declared.event.Event.TheVariants as event
use Rattle.keymap_cover.proofs.script.Script.up.Goals as goal

pub returns-in_ok-push-clause-along : goal.returns-in_ok-push-clause-along
returns-in_ok-push-clause-along g c =
    λ m h (stands, t).
    let old = c.args.self.now in
    let k = c.args.key in
    let len : length old.pressed ≡ 128 = old.pressed_len in
    let below : k < 128 = c.is_pressed.ensures.in_range in
    let within : k < length old.pressed = omega (arith, below, len) in (
      event.Release k ∷ h,
      (
        c.step.ensures.next _ h stands,
        subst (λ j. IsScript m (event.Release k ∷ h) c.push.new.self.items (slice_set old.pressed j false)
            (has_seen old.seen))
            (sym c.get.ensures.same)
            (script-up m h old.events.items c.push.new.self.items old.pressed
            (has_seen old.seen) k c.in_ok-push.ensures.items t
            below within (sym c.is_pressed.ensures.value ∙ c.if-is_pressed.true)),
      ),
      release-turns_none m h k,
      (λ of. refl),
    )

pub returns-else-is_pressed-clause-along : goal.returns-else-is_pressed-clause-along
returns-else-is_pressed-clause-along g c =
    λ m h (stands, t).
    let old = c.args.self.now in (
      h,
      (stands, t),
      (([], refl), (λ l. refl)),
      (λ of.
          absurd (up-not m h old.events.items old.pressed (has_seen old.seen) c.args.key t
          c.is_pressed.ensures.in_range (sym c.is_pressed.ensures.value ∙ c.if-is_pressed.false) of)),
    )
