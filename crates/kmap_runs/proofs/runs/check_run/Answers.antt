use Rattle.kmap_runs.proofs.Common.{err_from_is_err_and, Keeps-refl, rules, subst, sym}
use Rattle.kmap_runs.specs.Runs.{Reports}
use Rattle.kmap_runs.proofs.runs.check_run.Goals as goal

pub returns-in_err-map-clause-run : goal.returns-in_err-map-clause-run
returns-in_err-map-clause-run g c = search (rules, err_from_is_err_and, Keeps-refl)

pub returns-in-Ok-clause-run : goal.returns-in-Ok-clause-run
returns-in-Ok-clause-run g c = (
  c.in_ok-map.map,
  c.as_slice.result.now,
  c.in_ok-map.ensures.reads,
  subst (λ text. Reports c.args.show c.in_ok-map.map c.reported-accepted.result text) (sym c.as_slice.ensures.value)
      c.reported-accepted.ensures,
  c.in-Ok.ensures.bytes,
)

pub returns-clause-run : goal.returns-clause-run
returns-clause-run g c = search (rules)
