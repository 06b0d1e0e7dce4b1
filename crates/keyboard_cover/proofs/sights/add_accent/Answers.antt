use Rattle.std.proofs.Common.{rules}
use Rattle.keymap_cover.specs.SeenSights.{has_seen}
use Rattle.keyboard_cover.proofs.Collecting.{behind-sees, gains-none, unusable-none}
use Rattle.keyboard_cover.proofs.sights.add_accent.Goals as goal

pub returns-in_ok-add_met : goal.returns-in_ok-add_met
returns-in_ok-add_met c =
    behind-sees c.args.presses.now c.args.map.now c.args.accent c.in_ok-states.states.entries
    (has_seen c.args.can.now) (has_seen c.add_met.new.can) c.in_ok-states.ensures c.in_ok-add_met.ensures

pub returns-else-is_usable : goal.returns-else-is_usable
returns-else-is_usable c = search (rules, gains-none, unusable-none)
