use Rattle.std.proofs.Common.{sym}
use Rattle.layout_lint.proofs.Layouts.{layouts_keep_diagnostics}
use Rattle.layout_lint.proofs.laws.layouts_keep_diagnostics.Goals as goal

pub returns-clause-diagnostics : goal.returns-clause-diagnostics
returns-clause-diagnostics c text l k is of =
    layouts_keep_diagnostics text (sym (c.tokens_stay.ensures text)) l k is of
    (c.same_tokens_same_answers.ensures text _ (sym (c.tokens_stay.ensures text)) l k is of)

pub returns-clause-answers : goal.returns-clause-answers
returns-clause-answers c text = c.same_tokens_same_answers.ensures text _ (sym (c.tokens_stay.ensures text))

pub returns-clause-told : goal.returns-clause-told
returns-clause-told c text = c.same_tokens_tell_of_the_same.ensures text _ (sym (c.tokens_stay.ensures text))
