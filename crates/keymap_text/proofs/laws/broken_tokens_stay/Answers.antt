use Rattle.keymap_text.proofs.Prefixes.{endings_stay}
use Rattle.keymap_text.proofs.laws.broken_tokens_stay.Goals as goal

pub returns : goal.returns
returns c = endings_stay
