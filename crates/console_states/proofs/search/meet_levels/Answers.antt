use Rattle.std.proofs.Common.{rules}
use Rattle.console_states.proofs.Common.{◌≡◌, ◌≤◌, ◌+◌, length, arith, under_of, limit_of}
use Rattle.console_states.proofs.Growing.{added-longer}
use Rattle.console_states.proofs.Searching.{order-within, searched-fewer, level-done, closed-done}
use Rattle.console_states.proofs.Reaching.{met-once}
use Rattle.console_states.proofs.search.meet_levels.Goals as goal

pub loop-level-init : goal.loop-level-init
loop-level-init c = search rules

pub returns : goal.returns
returns c =
    λ origins begun.
    let u = under_of c.args.maps.now in
    let es = c.loop-level.met.entries in
    let level = c.loop-level.level in
    let s = c.loop-level.invariant.searched origins begun in
    let e : level ≡ length es =
    omega (arith, c.loop-level-test.false, c.len.ensures.len, c.loop-level.invariant.below) in
    record {
      searched = searched-fewer u es level level 0 0 (omega arith) (omega arith) s;
      ordered = c.loop-level.invariant.order.1;
      once = met-once es c.len.ensures.unique;
      is = rw (← e) (s, c.loop-level.invariant.few);
    }

pub returns-then-len-bound : goal.returns-then-len-bound
returns-then-len-bound c =
    λ origins begun.
    let es = c.close.new.met.entries in
    let u = under_of c.args.maps.now in
    let level = c.loop-level.level in
    let p = c.loop-level.presses in
    let s = (c.in_ok-close.ensures.searched origins (c.loop-level.invariant.searched origins begun)).0 in
    let order = c.in_ok-close.ensures.order in
    record {
      searched = searched-fewer u es level level 0 0 (omega arith) (omega arith) s;
      ordered = order.1;
      once = met-once es c.len-in-loop-level.ensures.unique;
      is = (
        omega (arith, c.if-len-bound.true, c.len-in-loop-level.ensures.len, c.limit-bound.ensures.value),
        order-within es level p order,
        level-done u es level p order s,
      );
    }

pub returns-then-len-bound-2 : goal.returns-then-len-bound-2
returns-then-len-bound-2 c =
    λ origins begun.
    let mid = c.close.new.met.entries in
    let es = c.press.new.met.entries in
    let u = under_of c.args.maps.now in
    let level = c.loop-level.level in
    let p = c.loop-level.presses in
    let le : length mid ≤ limit_of u =
    omega (arith, c.if-len-bound.false, c.len-in-loop-level.ensures.len, c.limit-bound.ensures.value) in
    let closed = (c.in_ok-close.ensures.searched origins (c.loop-level.invariant.searched origins begun)).1 le in
    let s = (c.in_ok-press.ensures.searched origins closed).0 in
    let order = c.in_ok-press.ensures.order in
    record {
      searched = searched-fewer u es level (length mid) 0 0 (omega arith) (omega arith) s;
      ordered = order.1;
      once = met-once es c.len-in-loop-level-2.ensures.unique;
      is = (
        omega (arith, c.if-len-bound-2.true, c.len-in-loop-level-2.ensures.len, c.limit-bound.ensures.value),
        order-within es (length mid) (p + 1) order,
        closed-done u mid es level p c.in_ok-close.ensures.order c.in_ok-press.ensures.grown order s,
      );
    }

pub loop-level-preserved : goal.loop-level-preserved
loop-level-preserved c = search (rules, added-longer)
