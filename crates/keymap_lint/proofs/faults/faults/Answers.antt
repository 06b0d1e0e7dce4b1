use Rattle.keymap_lint.proofs.Common.{arith, rules}
use Rattle.std.proofs.Common.{inl, inr, length-append}
use Rattle.keymap_lint.proofs.FaultPlaces.{faults_end, faults_more, lies_behind, lines_behind, none_found}
use Rattle.keymap_lint.proofs.faults.faults.Goals as goal

pub returns-in_default : goal.returns-in_default
returns-in_default c =
    faults_end c.args.text.now c.loop-alloc.start c.loop-alloc.faults.items c.loop-alloc.invariant.goes_on
    (inl (none_found _ _ c.in_ok-found.field-0 c.in_default.not-Some c.in_ok-found.ensures))

pub behind_line-start-requires : goal.behind_line-start-requires
behind_line-start-requires c =
    (lies_behind c.args.text.now c.loop-alloc.start c.in-Some.found (rw c.in-Some.is at c.in_ok-found.ensures)).0

pub loop-alloc-preserved : goal.loop-alloc-preserved
loop-alloc-preserved c = search (rules, length-append, lines_behind, faults_more)

pub returns : goal.returns
returns c =
    faults_end c.args.text.now c.loop-alloc.start c.loop-alloc.faults.items c.loop-alloc.invariant.goes_on
    (inr (omega (arith, c.loop-alloc-test.false, c.len.ensures)))
