use Rattle.std.proofs.Common.{arith, ◌<◌, length, rules}
use Rattle.std.proofs.lemmas.List.{length-set}
use Rattle.keyboard_cover.proofs.Runs.{press-run}
use Rattle.keyboard_cover.proofs.run.Run.press_answered.Goals as goal

pub invariant_of-self-2 : goal.invariant_of-self-2
invariant_of-self-2 c =
    let was = c.self.inside in
    let k = c.args.key in
    let below : k < 128 = c.may_press.ensures.in_range in
    let within : k < length was.down = omega (arith, below, c.self.invariant.0) in (
      search (rules, length-set),
      press-run _ was.map.now was.presses was.console c.step.new.self was.down was.events.items c.push.new.self.items
          k c.get-2.result c.if-self-get.event c.get-2.ensures.same c.in_ok-push.ensures.items c.self.invariant.1
          within below (search (rules)) (search (rules)) (search (rules))
          (λ ms h at. c.step.ensures.next ms h at),
    )
