use Rattle.keymap_lint_text.proofs.NoteWords.{tells_events}
use Rattle.keymap_lint_text.proofs.laws.notes_tell_the_events.Goals as goal

pub returns : goal.returns
returns c = tells_events
