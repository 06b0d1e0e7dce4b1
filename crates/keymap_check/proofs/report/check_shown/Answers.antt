use Rattle.keymap_check.proofs.Common.{ap, subst, sym, ◌∙◌, AreFindings, rules}
use Rattle.keymap_check.specs.Report.{IsAccepted}
use Rattle.keymap_check.proofs.Promises.{keeps_promise}
use Rattle.keymap_check.proofs.Reported.{reported-bearer, reported-steady}
use Rattle.keymap_check.proofs.report.check_shown.Goals as goal

pub returns-clause-accepted : goal.returns-clause-accepted
returns-clause-accepted g c m shows =
    let is = c.make_report.ensures m shows in (
      (λ e. (c.reports_are_computed.ensures.safe m).0 (ap (λ r. r.findings) (sym is) ∙ e)),
      (λ safe. ap (λ r. r.findings) is ∙ (c.reports_are_computed.ensures.safe m).1 safe),
    )

pub returns-clause-findings : goal.returns-clause-findings
returns-clause-findings g c m shows =
    subst (λ r. AreFindings m r.findings) (sym (c.make_report.ensures m shows))
    (c.reports_are_computed.ensures.findings m)

pub returns-clause-bearers : goal.returns-clause-bearers
returns-clause-bearers g c m shows a = search (rules, reported-bearer)

pub returns-clause-steady : goal.returns-clause-steady
returns-clause-steady g c m shows l =
    let is = reported-steady m c.make_report.result l (c.make_report.ensures m shows) in (
      (λ e. (c.reports_are_computed.ensures.steady m l).0 (sym is ∙ e)),
      (λ steady. is ∙ (c.reports_are_computed.ensures.steady m l).1 steady),
    )

pub returns-clause-promise : goal.returns-clause-promise
returns-clause-promise g c m shows =
    keeps_promise c.headline_holds.ensures m (IsAccepted c.make_report.result)
    (λ e. (c.reports_are_computed.ensures.safe m).0 (ap (λ r. r.findings) (sym (c.make_report.ensures m shows)) ∙ e))
