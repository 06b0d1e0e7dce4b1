use Rattle.kmap_runs.proofs.Common.{arith, get_or, length, get_or_default, Keyed}
use Rattle.kmap_runs.proofs.Scripts.{ends-front, ends-within, line_more, lines_end}
use Rattle.kmap_runs.proofs.typing.push_keyed.Goals as goal

pub loop-i-preserved : goal.loop-i-preserved
loop-i-preserved c =
    let ks = c.args.keyed.now in
    let n = c.loop-i.i in
    let none : Keyed = record { character = 0; end = 0 } in
    let x : Keyed = get_or ks n none in
    let at = get_or_default ks n none x c.loop-i-test.true in
    let ends = ends-front c.loop-i.from n _ ks x c.loop-i-test.true at c.loop-i.invariant.ends in
    record {
      inside = omega (arith, c.loop-i-test.true);
      within = ends-within _ (length c.args.events.now) _ ends.1;
      ends = ends.1;
      whole =
          line_more c.loop-i.starts c.loop-i.from c.args.events.now ks n x _ _ _ _ c.loop-i-test.true at ends.0
          c.in_ok-push_comment_if.ensures c.in_ok-push_events.ensures c.loop-i.invariant.whole;
    }

pub slice_bounds-push_events-end : goal.slice_bounds-push_events-end
slice_bounds-push_events-end c =
    let ks = c.args.keyed.now in
    let n = c.loop-i.i in
    let none : Keyed = record { character = 0; end = 0 } in
    let x : Keyed = get_or ks n none in
    let at = get_or_default ks n none x c.loop-i-test.true in
    let ends = ends-front c.loop-i.from n (length c.args.events.now) ks x c.loop-i-test.true at
    c.loop-i.invariant.ends in
    ends-within x.end (length c.args.events.now) _ ends.1

pub returns : goal.returns
returns c =
    lines_end c.loop-i.starts c.loop-i.from c.args.events.now c.args.keyed.now c.loop-i.i _ _ _ c.loop-i-test.false
    c.in_ok-push_events-2.ensures c.loop-i.invariant.whole
