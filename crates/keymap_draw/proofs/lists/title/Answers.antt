use Rattle.keymap_draw.proofs.Texts.{accent_words_shown}
use Rattle.keymap_draw.proofs.lists.title.Goals as goal

pub returns-clause-seen : goal.returns-clause-seen
returns-clause-seen c = rw c.accent_words.ensures.words (accent_words_shown c.args.index c.args.accent.now).each
