use Rattle.keymap_fmt.proofs.Quoting.{laid_keymap}
use Rattle.keymap_fmt.proofs.laws.keymap_stays.Goals as goal

pub returns-clause-spells : goal.returns-clause-spells
returns-clause-spells c = laid_keymap

pub returns-clause-no_other : goal.returns-clause-no_other
returns-clause-no_other c = λ how text m n h k. c.one_meaning.ensures.one_map _ n m k (laid_keymap how text m h)
