use Rattle.keymap_text.proofs.Common.{refl, sym, ap, subst, arith, add-zero, at_drop_all, IsOpen, Ok, rules}
use Rattle.keymap_text.proofs.Scanning.{takes_same, takes_on, faults_on, stays}
use Rattle.keymap_text.proofs.Splitting.{to_end}
use Rattle.keymap_text.proofs.scanner.scan.Goals as goal

pub loop-at-init : goal.loop-at-init
loop-at-init g c = search (rules, takes_same, stays)

pub loop-at-preserved : goal.loop-at-preserved
loop-at-preserved g c = search (rules, takes_on)

pub returns-in-Err-clause-takes : goal.returns-in-Err-clause-takes
returns-in-Err-clause-takes g c =
    faults_on c.loop-at.invariant.takes refl c.in-Err.ensures.takes c.behind.ensures.kind c.behind.ensures.at

pub returns-clause-open : goal.returns-clause-open
returns-clause-open g c =
    subst IsOpen (sym (at_drop_all (λ t. t) c.args.bytes.now c.loop-at.at (omega arith))) tt

pub returns-in-Ok-eq0-clause-takes : goal.returns-in-Ok-eq0-clause-takes
returns-in-Ok-eq0-clause-takes g c =
    rw (c.in-Ok-eq0.field-0-test, add-zero) at (takes_on c.loop-at.invariant.takes refl c.in-Ok-eq0.ensures.takes)

pub returns-in-Ok-eq0-clause-open : goal.returns-in-Ok-eq0-clause-open
returns-in-Ok-eq0-clause-open g c =
    subst IsOpen (to_end c.args.bytes.now c.loop-at.at) (c.in-Ok-eq0.ensures.open (ap Ok c.in-Ok-eq0.field-0-test))
