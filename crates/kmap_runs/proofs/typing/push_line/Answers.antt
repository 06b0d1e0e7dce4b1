use Rattle.kmap_runs.proofs.Common.{get_or, ne_eqb, get_or_default, Keyed}
use Rattle.kmap_runs.proofs.Scripts.{shown_more}
use Rattle.kmap_runs.proofs.typing.push_line.Goals as goal

pub loop-one-preserved : goal.loop-one-preserved
loop-one-preserved c =
    let ks = c.args.keyed.now in
    let n = c.loop-one.one-index in
    let none : Keyed = record { character = 0; end = 0 } in
    let x : Keyed = get_or ks n none in
    shown_more ks n x _ _ _ c.loop-one-test.true (get_or_default ks n none x c.loop-one-test.true)
    (ne_eqb _ _ c.if-one-eq10.false) c.in_ok-push_shown.ensures c.loop-one.invariant
