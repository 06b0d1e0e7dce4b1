use Rattle.keymap_lint.proofs.SameAnswers.{same_tokens_same_answers}
use Rattle.keymap_lint.proofs.laws.same_tokens_same_answers.Goals as goal

pub returns : goal.returns
returns c = same_tokens_same_answers
