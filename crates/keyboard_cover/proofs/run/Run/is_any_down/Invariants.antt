use Rattle.std.proofs.Common.{◌≡◌, ◌<◌, ℕ, List, ◌++◌, false}
use Rattle.console_core.specs.declared.event.Event.{Event}
use Rattle.console_core.specs.History.{pressed}
use Rattle.keyboard_cover.specs.Runs.{IsRest, run_events}
use Rattle.keyboard_cover.proofs.run.Run.is_any_down.Given as goal

-- the keys below the code aren't pressed
abbrev pub invariant-loop-code : goal.invariant-loop-code
invariant-loop-code l =
    (h : List Event) → IsRest l.self.map h → (k : ℕ) → k < l.code → pressed k (run_events l.self.events ++ h) ≡ false
