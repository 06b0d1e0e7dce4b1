use Rattle.console_states.proofs.Common.{◌≤◌, length, arith, state_of, under_of, AreAdded, rules}
use Rattle.console_states.proofs.Growing.{added-longer, grows-again}
use Rattle.console_states.proofs.Searching.{close-step, order-grows, searched-both}
use Rattle.console_states.proofs.search.close.Goals as goal

pub loop-place-preserved : goal.loop-place-preserved
loop-place-preserved c =
    let u = under_of c.args.maps.now in
    let es = c.loop-place.met.entries in
    let now = c.meet_frees.new.met.entries in
    let n = c.loop-place.place in
    let y = c.entry.result in
    let before = c.loop-place.invariant in
    let added : AreAdded u (state_of y.0) n 0 c.args.presses es now = c.in_ok-meet_frees.ensures.added in
    let longer : length es ≤ length now = added-longer es now (added.0, added.1) in
    record {
      searched = λ origins s.
          close-step u es now c.args.level c.args.presses n y before.order before.after c.entry.ensures added
          c.in_ok-meet_frees.ensures.met (before.searched origins s);
      order = order-grows u (state_of y.0) n 0 c.args.presses c.args.level es now added before.below before.order;
      grown = grows-again c.args.met.now.entries es now before.grown (added.0, added.1);
      after = omega (arith, before.after);
      below = omega (arith, before.below, longer);
    }

pub returns-after-loop-place-clause-searched : goal.returns-after-loop-place-clause-searched
returns-after-loop-place-clause-searched c =
    λ origins s.
    let es = c.loop-place.met.entries in
    let level = c.args.level in
    searched-both (under_of c.args.maps.now) es level c.loop-place.place level level level (length es) (omega arith)
    c.loop-place.invariant.after (λ few. (omega arith, search rules)) (c.loop-place.invariant.searched origins s)

pub returns-else-len-bound-clause-searched : goal.returns-else-len-bound-clause-searched
returns-else-len-bound-clause-searched c =
    λ origins s.
    let es = c.loop-place.met.entries in
    let level = c.args.level in
    searched-both (under_of c.args.maps.now) es level c.loop-place.place level level level (length es) (omega arith)
    c.loop-place.invariant.after (λ few. (omega arith, search rules)) (c.loop-place.invariant.searched origins s)
