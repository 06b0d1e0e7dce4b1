use Rattle.script_text.specs.Cover.{counts_line}
use Rattle.script_text.proofs.cover.push_counts.Goals as goal

pub returns : goal.returns
unfolding counts_line
returns c =
    rw (
      c.as_slice.ensures.value,
      c.number.ensures,
      c.as_slice-2.ensures.value,
      c.number-2.ensures,
      c.as_slice-3.ensures.value,
      c.number-3.ensures,
      c.count-counts.ensures,
    ) at c.push_comment.ensures
