-- The tables and the shapes of the code are those of the definitions.
use Rattle.keymap_draw.proofs.Common.{refl, digits}
use Rattle.keymap_draw.proofs.Common.{unfilled, unseen_name, other_legend, character_legend}
use Rattle.keymap_draw.specs.Names.{LegendsAreNames, NoOthersAreNamed}
use Rattle.std.specs.Prelude.{take}
use Rattle.keymap_draw.specs.declared.constants.TheConstants.{STYLE}
use Rattle.keymap_draw.specs.Shapes.{CapsAreOfTheirKeys}
use Rattle.keymap_draw.specs.Sizes.{SizesAreOfTheStyle}

pub legends_are_names : LegendsAreNames
unfolding unfilled unseen_name other_legend character_legend
legends_are_names = refl

pub no_others_are_named : NoOthersAreNamed
unfolding unfilled
no_others_are_named = refl

pub caps_are_of_their_keys : CapsAreOfTheirKeys
unfolding digits
caps_are_of_their_keys = refl

pub sizes_are_of_the_style : SizesAreOfTheStyle
unfolding digits
sizes_are_of_the_style = (take 1395 STYLE, refl)
