use Rattle.keyboard_cover.proofs.Runs.{new-run, stands-rest}
use Rattle.keyboard_cover.proofs.run.Run.new.Goals as goal

pub invariant_of-result : goal.invariant_of-result
invariant_of-result c = (
  c.none_down.ensures.len,
  new-run _ c.args.map.now c.args.presses c.new.result c.none_down.result c.new-2.result.items c.new-2.ensures.items
      c.none_down.ensures.none
      (λ h rest.
      (c.new.ensures.0, c.new.ensures.1, rest.keys, stands-rest c.args.map.now _ h c.new.ensures.3 rest)),
)
