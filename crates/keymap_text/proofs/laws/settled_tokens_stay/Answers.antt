use Rattle.keymap_text.proofs.Prefixes.{tokens_stay}
use Rattle.keymap_text.proofs.laws.settled_tokens_stay.Goals as goal

pub returns : goal.returns
returns c = tokens_stay
