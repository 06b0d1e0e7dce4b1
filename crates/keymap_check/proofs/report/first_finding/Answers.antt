use Rattle.keymap_check.proofs.Common.{IsNone}
use Rattle.keymap_check.proofs.Promises.{keeps_promise}
use Rattle.keymap_check.proofs.FirstFinding.{first_of, none_of, of_none}
use Rattle.keymap_check.proofs.report.first_finding.Goals as goal

pub returns-clause-safe : goal.returns-clause-safe
returns-clause-safe g c m shows = (
  (λ is. (c.check_shown-report.ensures.accepted m shows).0 (none_of _ _ c.first.ensures is)),
  (λ safe. of_none _ _ c.first.ensures ((c.check_shown-report.ensures.accepted m shows).1 safe)),
)

pub returns-clause-first : goal.returns-clause-first
returns-clause-first g c m shows = first_of m _ _ c.first.ensures (c.check_shown-report.ensures.findings m shows)

pub returns-clause-promise : goal.returns-clause-promise
returns-clause-promise g c m shows =
    keeps_promise c.headline_holds.ensures m (IsNone c.first.result)
    (λ is. (c.check_shown-report.ensures.accepted m shows).0 (none_of _ _ c.first.ensures is))
