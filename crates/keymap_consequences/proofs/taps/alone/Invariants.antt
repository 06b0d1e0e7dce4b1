-- the characters before this one that stay are listed
use Rattle.keymap_consequences.proofs.Common.{◌≡◌, false}
use Rattle.std.specs.BTreeSet.{contains}
use Rattle.std.specs.Ordering.{nat_cmp}
use Rattle.keymap_core.specs.Maps.{MapValue}
use Rattle.keymap_consequences.proofs.Kept.{KeptBelow}
use Rattle.keymap_consequences.specs.Inner.Near.{AreTapsOf}
use Rattle.keymap_consequences.proofs.taps.alone.Given as goal

abbrev pub invariant-loop-c : goal.invariant-loop-c
invariant-loop-c l =
    (m n : MapValue) → AreTapsOf m l.these → AreTapsOf n l.others
    → KeptBelow (λ c. contains nat_cmp l.others.given.typed c ≡ false) l.c-items l.c-index l.characters.items
