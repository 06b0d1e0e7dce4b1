use Rattle.script_text.proofs.Common.{◌∙◌, sym}
use Rattle.std.specs.Cmp.Lexicographic.{same_text, other_text}
use Rattle.script_text.proofs.cover.has_row.Goals as goal

pub returns-clause-same : goal.returns-clause-same
returns-clause-same c =
    λ same. sym c.in_ok-other.ensures ∙ sym c.as_slice.ensures.value ∙ same_text _ _ (sym same ∙ c.eq.ensures)

pub returns-clause-other : goal.returns-clause-other
returns-clause-other c =
    λ off e. other_text _ _ (sym off ∙ c.eq.ensures) (c.as_slice.ensures.value ∙ c.in_ok-other.ensures ∙ e)
