use Rattle.kmap_runs.proofs.brief_runs.is_accepted.Goals as goal

pub returns : goal.returns
returns c =
    let accepted = c.accepted.ensures in
    let safe = c.check.ensures.accepted in
    ((λ t. safe.0 (accepted.0 t)), (λ s. accepted.1 (safe.1 s)))
