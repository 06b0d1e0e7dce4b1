-- the characters before this one that stay are listed
use Rattle.keymap_consequences.proofs.Common.{◌≡◌}
use Rattle.keymap_core.specs.Maps.{MapValue}
use Rattle.console_scripts.specs.Typing.{CanType}
use Rattle.keymap_consequences.proofs.Kept.{KeptBelow}
use Rattle.keymap_consequences.specs.Consequences.{TakesMore}
use Rattle.keymap_consequences.specs.Inner.Near.{AreTapsOf}
use Rattle.keymap_consequences.proofs.taps.farther.Given as goal

abbrev pub invariant-loop-c : goal.invariant-loop-c
invariant-loop-c l =
    (m n : MapValue) → AreTapsOf m l.these → AreTapsOf n l.others
    → KeptBelow (λ c. CanType n c × TakesMore m n c) l.c-items l.c-index l.characters.items
