use Rattle.script_text.proofs.Common.{sym, ◌∙◌}
use Rattle.script_text.proofs.diff.push_counts.Goals as goal

pub returns : goal.returns
returns c =
    rw (sym c.are_none.ensures ∙ c.if-are_none.false)
    (rw (
      c.as_slice.ensures.value,
      c.in_ok-slots_told.ensures,
      c.between_counts-between.ensures,
      c.as_slice-2.ensures.value,
      c.in_ok-accents_told.ensures,
    ) at c.push_comment.ensures)
