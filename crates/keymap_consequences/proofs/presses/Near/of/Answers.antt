use Rattle.keymap_consequences.proofs.Seconds.{near-two}
use Rattle.keymap_consequences.proofs.presses.Near.of.Goals as goal

pub returns : goal.returns
returns c = record {
  one = c.in_ok-typed_by_one.ensures;
  two =
      near-two c.args.map.now c.in_ok-typed_by_one.field-0 c.in_ok-typed_by_second.field-0
      c.in_ok-typed_by_one.ensures c.in_ok-typed_by_second.ensures;
}
