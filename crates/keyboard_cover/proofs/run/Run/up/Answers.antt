use Rattle.std.proofs.Common.{arith, ◌<◌, length, rules}
use Rattle.std.proofs.lemmas.List.{length-set}
use Rattle.keyboard_cover.proofs.Runs.{up-run}
use Rattle.keyboard_cover.proofs.run.Run.up.Goals as goal

pub invariant_of-self-then-not-must_wait : goal.invariant_of-self-then-not-must_wait
invariant_of-self-then-not-must_wait c =
    let was = c.self.inside in
    let k = c.args.key in
    let below : k < 128 = search (rules, arith) in
    let within : k < length was.down = omega (arith, below, c.self.invariant.0) in (
      search (rules, length-set),
      up-run _ was.map.now was.presses was.console c.step.new.self was.down was.events.items c.push.new.self.items
          k c.get-then-not-must_wait.result c.get-then-not-must_wait.ensures.same c.in_ok-push.ensures.items
          c.self.invariant.1 within below (search (rules)) (search (rules))
          (λ ms h at. c.step.ensures.next ms h at),
    )
