use Rattle.keymap_text.proofs.Common.{append_assoc, accent_words, accent_line}
use Rattle.keymap_text.proofs.layout.accent_line.Goals as goal

pub returns : goal.returns
unfolding accent_words accent_line
returns c = rw (c.push.ensures.items, c.accent_words-line.ensures.words) (simp append_assoc)
