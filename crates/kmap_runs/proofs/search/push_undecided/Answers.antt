use Rattle.kmap_runs.proofs.search.push_undecided.Goals as goal

pub returns : goal.returns
returns c = rw (c.as_slice.ensures.value, c.number.ensures) at c.push_comment.ensures
