use Rattle.std.proofs.Common.{◌≡◌, arith, length, subst}
use Rattle.keymap_cover.specs.SeenSights.{Gains, has_seen}
use Rattle.keyboard_cover.specs.Inner.Sights.{SeesInMet}
use Rattle.keyboard_cover.proofs.Collecting.{met-more}
use Rattle.keyboard_cover.proofs.sights.add_met.Goals as goal

pub loop-place-preserved : goal.loop-place-preserved
loop-place-preserved c =
    met-more c.args.presses.now c.args.map.now c.args.pending c.args.met.now.entries c.loop-place.place c.entry.result
    (has_seen c.args.can.now) (has_seen c.loop-place.can) (has_seen c.add_state.new.can) c.entry.ensures
    c.loop-place.invariant c.in_ok-add_state.ensures

pub returns : goal.returns
returns c =
    let es = c.args.met.now.entries in
    let e : c.loop-place.place ≡ length es =
    omega (arith, c.loop-place-test.false, c.loop-place.auto.place-end, c.len-place-end.ensures.len) in
    subst (λ n. Gains (SeesInMet c.args.presses.now c.args.map.now c.args.pending es n) (has_seen c.args.can.now)
    (has_seen c.loop-place.can)) e c.loop-place.invariant
