use Rattle.keymap_lint.proofs.Common.{arith}
use Rattle.keymap_lint.proofs.FaultPlaces.{behind_fits, start_fits}
use Rattle.keymap_lint.proofs.faults.wanted_behind.Goals as goal

pub overflow_add-definition : goal.overflow_add-definition
overflow_add-definition c =
    omega (
      arith,
      start_fits c.args.text.now c.args.start c.wanted_at_fault-own.result c.in-Some.begun c.requires
          c.wanted_at_fault-own.ensures c.in-Some.is,
    )

pub overflow_add-result : goal.overflow_add-result
overflow_add-result c =
    omega (
      arith,
      behind_fits c.args.text.now c.args.start c.wanted_at_fault-own.result c.requires
          c.wanted_at_fault-own.ensures,
    )
