use Rattle.keymap_cover.proofs.Common.{◌≡◌, ◌<◌, length, reverse, true, subst, sym, ◌∙◌, arith, ◌∷◌, slice_set}
use Rattle.keymap_cover.proofs.Common.{has_seen, IsScript}
use Rattle.keymap_cover.proofs.Scripts.{script-press}
use Rattle.console_core.specs.declared.event.Event.TheVariants as event
use Rattle.keymap_cover.proofs.script.Script.press.Goals as goal

pub returns : goal.returns
returns g c =
    λ h (stands, t).
    let m = c.args.map.now in
    let old = c.args.self.now in
    let k = c.args.key in
    let now = has_seen c.add_sights.new.self in
    let len : length old.pressed ≡ 128 = old.pressed_len in
    let below : k < 128 = c.press_of-event.ensures.in_range in
    let within : k < length old.pressed = omega (arith, below, len) in (
      c.step.ensures.next _ h stands,
      subst (λ j. IsScript m (event.Press k ∷ h) c.push.new.self.items (slice_set old.pressed j true) now)
          (sym c.get.ensures.same)
          (script-press m h old.events.items c.push.new.self.items old.pressed (has_seen old.seen) now k
          c.press_of-event.result
          c.in_ok-push.ensures.items t c.press_of-event.ensures.event
          (c.press_of-event.ensures.possible (reverse old.events.items)
          (c.is_pressed.ensures.value ∙ t.pressed k below)) below within
          (c.in_ok-add_sights.ensures h stands)),
    )
