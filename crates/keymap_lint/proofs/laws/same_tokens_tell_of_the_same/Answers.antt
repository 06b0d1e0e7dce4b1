use Rattle.keymap_lint.proofs.SameTexts.{same_tokens_tell_of_the_same}
use Rattle.keymap_lint.proofs.laws.same_tokens_tell_of_the_same.Goals as goal

pub returns : goal.returns
returns c = same_tokens_tell_of_the_same
