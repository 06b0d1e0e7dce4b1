use Rattle.keymap_lint.proofs.Common.{arith, refl}
use Rattle.keymap_lint.proofs.FaultPlaces.{line_in_whole, offset_fits}
use Rattle.keymap_lint.proofs.faults.in_whole.Goals as goal

pub overflow_add-result : goal.overflow_add-result
overflow_add-result c =
    omega (arith, offset_fits c.args.text.now c.args.start c.args.own c.requires.inside c.requires.fault)

pub returns : goal.returns
returns c =
    let wanted = c.wanted_behind.ensures in record {
      own = record { fault = c.args.own; place = wanted.0 };
      is_fault = c.requires.fault;
      is_wanted = wanted.1;
      kind = refl;
      offset = refl;
      line = line_in_whole c.args.text.now c.args.start c.args.lines c.args.own c.requires.lines c.requires.fault;
      place = wanted.2;
    }
