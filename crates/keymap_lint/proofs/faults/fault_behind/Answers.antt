use Rattle.keymap_lint.proofs.Common.{arith}
use Rattle.keymap_lint.proofs.FaultPlaces.{spelled_by_nothing}
use Rattle.keymap_lint.proofs.faults.fault_behind.Goals as goal

pub returns-then-start-text : goal.returns-then-start-text
returns-then-start-text c =
    spelled_by_nothing c.args.text.now c.args.start (omega (arith, c.if-start-text.true))
