use Rattle.script_text.proofs.Common.{◌≡◌, take}
use Rattle.std.specs.Prelude.{reverse}
use Rattle.console_core.specs.History.{pressed}
use Rattle.script_text.proofs.diff.is_pressed.Given as goal

abbrev pub invariant-loop-event : goal.invariant-loop-event
invariant-loop-event l = l.is_pressed ≡ pressed l.key (reverse (take l.event-index l.events))
