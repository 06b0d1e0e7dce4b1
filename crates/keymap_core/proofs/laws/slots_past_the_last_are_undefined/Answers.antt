use Rattle.keymap_core.specs.Maps.{undefined}
use Rattle.keymap_core.proofs.Placing.{past-blank}
use Rattle.keymap_core.proofs.laws.slots_past_the_last_are_undefined.Goals as goal

pub returns : goal.returns
returns c = λ map slot h. past-blank undefined map.entries slot h
