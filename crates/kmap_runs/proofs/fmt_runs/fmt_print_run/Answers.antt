use Rattle.kmap_runs.proofs.fmt_runs.fmt_print_run.Goals as goal

pub returns-clause-run : goal.returns-clause-run
returns-clause-run g c =
    let bytes = rw c.as_slice.ensures.value at c.in-Err.ensures.bytes in
    (c.in_ok-laid.field-0-0.items, c.in_ok-laid.laid.items, c.in_ok-laid.ensures.reads, bytes.0, bytes.1)
