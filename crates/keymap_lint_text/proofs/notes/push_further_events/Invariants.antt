use Rattle.keymap_lint_text.proofs.Common.{◌≡◌, ◌++◌, take, flat_map}
use Rattle.keymap_lint_text.specs.Notes.{further_event}
use Rattle.keymap_lint_text.proofs.notes.push_further_events.Given as goal

abbrev pub invariant-loop-event : goal.invariant-loop-event
invariant-loop-event l =
    l.text.items ≡ l.fn.text.items ++ flat_map further_event (take l.event-index l.events)
