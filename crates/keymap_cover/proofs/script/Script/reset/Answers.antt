use Rattle.keymap_cover.proofs.Common.{has_seen}
use Rattle.keymap_cover.proofs.Scripts.{script-reset}
use Rattle.keymap_cover.proofs.script.Script.reset.Goals as goal

pub returns-clause-along : goal.returns-clause-along
returns-clause-along g c =
    λ m h (stands, t).
    let old = c.args.self.now in (
      c.step.ensures.next _ h stands,
      script-reset m h old.events.items c.push.new.self.items old.pressed (has_seen old.seen)
          c.in_ok-push.ensures.items t,
    )
