use Rattle.play_core.proofs.Common.{◌≡◌, take, drop, AreEvents, parts_of, lines_of}
use Rattle.play_core.proofs.ScriptLines.{parts_left, bytes_left}
use Rattle.play_core.proofs.script.read_script.Given as goal

-- the lines so far are the events, and the parts left are the lines to come
abbrev pub invariant-loop-rest : goal.invariant-loop-rest
invariant-loop-rest l =
    AreEvents (take l.number (lines_of l.script)) l.events.items
    × (drop l.number (parts_of l.script) ≡ parts_left l.rest)

abbrev pub decreases-loop-rest : goal.decreases-loop-rest
decreases-loop-rest l = bytes_left l.rest
