use Rattle.std.proofs.Common.{subst}
use Rattle.keymap_cover.specs.SeenSights.{Gains, has_seen}
use Rattle.keyboard_cover.specs.Inner.Sights.{SeesMade}
use Rattle.keyboard_cover.proofs.Collecting.{keys-more}
use Rattle.keyboard_cover.proofs.sights.add_keys.Goals as goal

pub loop-code-preserved : goal.loop-code-preserved
loop-code-preserved c =
    let p = c.args.presses.now in
    let m = c.args.map.now in
    let was = has_seen c.loop-code.can in
    let now = has_seen c.add_key.new.can in
    keys-more p m c.args.pending c.loop-code.code c.args.selection (has_seen c.args.can.now) was now
    c.loop-code.invariant
    (subst (λ k. Gains (SeesMade p m c.args.pending c.args.selection k) was now) c.key_with.ensures
    c.in_ok-add_key.ensures)
