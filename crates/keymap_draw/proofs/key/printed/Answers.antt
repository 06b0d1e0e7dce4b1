use Rattle.keymap_draw.proofs.Common.{rules}
use Rattle.keymap_draw.proofs.Texts.{slot_words_shown, entry_bound}
use Rattle.keymap_draw.proofs.key.printed.Goals as goal

pub returns-clause-seen : goal.returns-clause-seen
returns-clause-seen c = search (rules, slot_words_shown, entry_bound)
