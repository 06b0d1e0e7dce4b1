use Rattle.keymap_lint_text.proofs.Common.{◌∙◌, ◌++◌, ap, append_assoc, codes}
use Rattle.keymap_lint_text.specs.Notes.{event_text, further_event}
use Rattle.keymap_names.proofs.Shared.{next_given}
use Rattle.keymap_lint_text.proofs.notes.push_further_events.Goals as goal

pub loop-event-preserved : goal.loop-event-preserved
loop-event-preserved c =
    next_given further_event c.args.events.now c.loop-event.event-index _ _ _ _ _ c.loop-event-test.true
    c.event-item.is c.loop-event.invariant
    (c.in_ok-push_event.ensures ∙ ap (λ t. t ++ event_text c.event-item.result) c.in_ok-extend_from_slice.ensures.items
    ∙ append_assoc c.loop-event.text.items (codes ", ") (event_text c.event-item.result))
