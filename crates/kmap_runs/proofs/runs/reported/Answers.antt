use Rattle.kmap_runs.proofs.runs.reported.Goals as goal

pub returns : goal.returns
returns c = (
  (
    (λ yes. c.check-report.ensures.accepted.0 (c.accepted-accepted.ensures.0 yes)),
    (λ safe. c.accepted-accepted.ensures.1 (c.check-report.ensures.accepted.1 safe)),
  ),
  c.append_report.ensures,
)
