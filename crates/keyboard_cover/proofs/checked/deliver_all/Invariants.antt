use Rattle.std.proofs.Common.{◌≡◌}
use Rattle.keyboard_cover.proofs.checked.deliver_all.Given as goal

abbrev pub invariant-loop-event : goal.invariant-loop-event
invariant-loop-event l = (l.run.map ≡ l.fn.run.map) × (l.run.presses ≡ l.fn.run.presses)
