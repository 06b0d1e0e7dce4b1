use Rattle.kmap_runs.proofs.Common.{◌≡◌, ◌+◌, ◌*◌, ◌≤◌, ◌++◌, take, flat_map, array_vec_len, event_line}
use Rattle.kmap_runs.proofs.report.append_events.Given as goal

abbrev pub invariant-loop-event : goal.invariant-loop-event
invariant-loop-event l =
    (l.text.items ≡ l.fn.text.items ++ flat_map event_line (take l.event-index l.events))
    × (array_vec_len l.text ≤ array_vec_len l.fn.text + 9 * l.event-index)
