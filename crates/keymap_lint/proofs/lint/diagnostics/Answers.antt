use Rattle.keymap_lint.proofs.Common.{arith}
use Rattle.keymap_lint.proofs.FaultPlaces.{all_lie_within, some_faults}
use Rattle.keymap_lint.specs.Types.{Spelled}
use Rattle.keymap_lint.proofs.Standing.{lies_within}
use Rattle.keymap_lint.proofs.lint.diagnostics.Goals as goal

pub returns-in_ok-lint_map-in-Ok-clause-places : goal.returns-in_ok-lint_map-in-Ok-clause-places
returns-in_ok-lint_map-in-Ok-clause-places c =
    lies_within c.args.text.now (Spelled c.in_ok-lint_map-in-Ok.field-0)
    (c.in-Ok.map, c.in-Ok.ensures, c.in_ok-lint_map-in-Ok.ensures)

pub returns-in_ok-faults-in-Err-Fault-clause-said : goal.returns-in_ok-faults-in-Err-Fault-clause-said
returns-in_ok-faults-in-Err-Fault-clause-said c =
    let are = c.in_ok-faults-in-Err-Fault.ensures in (
      some_faults 21 c.args.text.now c.in_ok-faults-in-Err-Fault.field-0.items c.in-Err-Fault.field-0-0 (omega arith)
          (rw c.in-Err-Fault.field-0-is at c.in-Err-Fault.ensures) are,
      are,
    )

pub returns-in_ok-faults-in-Err-Fault-clause-places : goal.returns-in_ok-faults-in-Err-Fault-clause-places
returns-in_ok-faults-in-Err-Fault-clause-places c =
    all_lie_within 21 c.args.text.now 0 c.in_ok-faults-in-Err-Fault.field-0.items c.in_ok-faults-in-Err-Fault.ensures
