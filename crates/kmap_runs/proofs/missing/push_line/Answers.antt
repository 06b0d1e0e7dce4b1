use Rattle.kmap_runs.proofs.missing.push_line.Goals as goal

pub returns : goal.returns
returns c =
    rw (
      c.as_slice.ensures.value,
      c.number.ensures,
      c.at-line.ensures.number,
      c.as_slice-2.ensures.value,
      c.number-2.ensures,
      c.at-line.ensures.before,
      c.as_slice-3.ensures.value,
      c.in_ok-character_told.ensures,
    ) at c.fill.ensures
