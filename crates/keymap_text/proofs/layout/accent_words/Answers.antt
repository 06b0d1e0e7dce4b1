use Rattle.keymap_text.proofs.Common.{arith}
use Rattle.std.proofs.lemmas.Grind.{common_steps}
use Rattle.keymap_text.proofs.layout.accent_words.Goals as goal

pub loop-base-init : goal.loop-base-init
loop-base-init c = grind (arith, common_steps)
