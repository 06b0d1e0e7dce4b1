use Rattle.keymap_text.proofs.Meanings.{whole_means}
use Rattle.keymap_text.proofs.words.short_name.Goals as goal

pub returns : goal.returns
returns c = whole_means c.name_meaning.result c.args.word.now c.name_meaning.ensures
