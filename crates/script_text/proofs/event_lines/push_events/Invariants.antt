use Rattle.script_text.proofs.Common.{◌≡◌, ◌++◌, take, flat_map, event_line}
use Rattle.script_text.proofs.event_lines.push_events.Given as goal

abbrev pub invariant-loop-event : goal.invariant-loop-event
invariant-loop-event l = l.text.items ≡ l.fn.text.items ++ flat_map event_line (take l.event-index l.events)
