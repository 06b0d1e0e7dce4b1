use Rattle.keymap_cover.specs.SeenSights.{has_seen}
use Rattle.keyboard_cover.proofs.Collecting.{accents-more}
use Rattle.keyboard_cover.proofs.sights.add_accents.Goals as goal

pub loop-accent-preserved : goal.loop-accent-preserved
loop-accent-preserved c =
    accents-more c.args.presses.now c.args.map.now c.loop-accent.accent (has_seen c.args.can.now)
    (has_seen c.loop-accent.can) (has_seen c.add_accent.new.can) c.loop-accent.invariant c.in_ok-add_accent.ensures
