use Rattle.keymap_fmt.proofs.Words.{no_new_words}
use Rattle.keymap_fmt.proofs.laws.layouts_have_no_new_words.Goals as goal

pub returns : goal.returns
returns c = no_new_words
