use Rattle.std.proofs.Common.{ap, ◌∙◌}
use Rattle.keyboard.specs.Codes.{evdev_of}
use Rattle.keyboard.proofs.Told.{evdev_told, evdev_short}
use Rattle.keyboard.proofs.keys.evdev_of.Goals as goal

pub returns : goal.returns
returns c = record {
  value = evdev_told _ c.get.ensures.in_range ∙ ap evdev_of c.get.ensures.same;
  most = evdev_short _ c.get.ensures.in_range;
}
