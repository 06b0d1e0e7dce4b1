use Rattle.console_states.proofs.Common.{◌≤◌, ◌<◌, ◌+◌, [], length, sym, arith, append-nil, state_of, under_of}
use Rattle.console_states.proofs.Common.{AreAdded, rules}
use Rattle.console_states.proofs.Growing.{added-longer, grows-again}
use Rattle.console_states.proofs.Searching.{press-step, order-grows, order-next, searched-both}
use Rattle.console_states.proofs.search.press.Goals as goal

pub loop-place-init : goal.loop-place-init
loop-place-init c = record {
  searched = λ origins s. s;
  order = order-next c.args.met.now.entries c.args.level c.args.presses c.requires.order;
  grown = ([], sym (append-nil c.args.met.now.entries));
}

pub loop-place-preserved : goal.loop-place-preserved
loop-place-preserved c =
    let u = under_of c.args.maps.now in
    let old = c.args.met.now.entries in
    let es = c.loop-place.met.entries in
    let now = c.meet_presses.new.met.entries in
    let n = c.loop-place.place in
    let p = c.args.presses in
    let y = c.entry.result in
    let before = c.loop-place.invariant in
    let added : AreAdded u (state_of y.0) n 1 (p + 1) es now = c.in_ok-meet_presses.ensures.added in
    let le : c.args.level ≤ n = omega (arith, c.loop-place.auto.place) in
    let lt : n < length old = omega (arith, c.loop-place-test.true, c.len-end.ensures.len) in
    record {
      searched = λ origins s.
          press-step u old es now c.args.level p n y c.requires.order before.grown le lt c.entry.ensures added
          c.in_ok-meet_presses.ensures.met (before.searched origins s);
      order =
          order-grows u (state_of y.0) n 1 (p + 1) (length old) es now added (added-longer old es before.grown)
          before.order;
      grown = grows-again old es now before.grown (added.0, added.1);
    }

pub returns-then-len-bound-clause-searched : goal.returns-then-len-bound-clause-searched
returns-then-len-bound-clause-searched c =
    λ origins s.
    let old = length c.args.met.now.entries in
    searched-both (under_of c.args.maps.now) c.loop-place.met.entries c.loop-place.place old c.args.level old old old
    (search rules) (omega arith) (λ few. (search rules, omega arith)) (c.loop-place.invariant.searched origins s)

pub returns-clause-searched : goal.returns-clause-searched
returns-clause-searched c =
    λ origins s.
    let old = length c.args.met.now.entries in
    searched-both (under_of c.args.maps.now) c.loop-place.met.entries c.loop-place.place old c.args.level old old old
    (search rules) (omega arith) (λ few. (search rules, omega arith)) (c.loop-place.invariant.searched origins s)
