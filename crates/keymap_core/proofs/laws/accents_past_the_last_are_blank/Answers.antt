use Rattle.keymap_core.specs.Accents.{blank}
use Rattle.keymap_core.proofs.Placing.{past-blank}
use Rattle.keymap_core.proofs.laws.accents_past_the_last_are_blank.Goals as goal

pub returns : goal.returns
returns c = λ map index h. past-blank blank map.accents index h
