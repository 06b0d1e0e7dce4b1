use Rattle.keymap_check.proofs.Common.{sym, refl, ◌∙◌}
use Rattle.keymap_check.proofs.Reported.{reported-bearer}
use Rattle.keymap_check.proofs.Bearing.{throughout-bears, plain_bearers}
use Rattle.keymap_core.specs.declared.action.Holding.TheVariants as holding
use Rattle.keymap_check.proofs.Promises as promise
use Rattle.keymap_check.proofs.report.check.Goals as goal

pub returns-clause-accepted : goal.returns-clause-accepted
returns-clause-accepted c = c.check_shown.ensures.accepted c.args.map.now refl

pub returns-clause-findings : goal.returns-clause-findings
returns-clause-findings c = c.check_shown.ensures.findings c.args.map.now refl

pub returns-clause-promise : goal.returns-clause-promise
returns-clause-promise c = c.check_shown.ensures.promise c.args.map.now refl

pub returns-clause-fresh_presses : goal.returns-clause-fresh_presses
returns-clause-fresh_presses c l k e =
    promise.fresh_presses c.locks_count_fresh_presses.ensures c.args.map.now l k
    (throughout-bears c.args.map.now (holding.Lock l) k
    (sym (reported-bearer c.args.map.now c.check_shown.result (holding.Lock l)
    (c.check_shown.ensures.value c.args.map.now refl))
    ∙ e))

pub returns-clause-looks_plainly : goal.returns-clause-looks_plainly
returns-clause-looks_plainly c plain =
    promise.looks_plainly c.looks_plainly.ensures.look c.args.map.now
    (plain_bearers c.args.map.now c.check_shown.result (c.check_shown.ensures.bearers c.args.map.now refl) plain)
