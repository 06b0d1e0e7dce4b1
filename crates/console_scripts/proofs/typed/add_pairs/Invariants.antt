-- what the bases of the pairs before this one type was added
use Rattle.console_scripts.proofs.Common.{take}
use Rattle.console_scripts.proofs.Tapping.{MadeByPairs}
use Rattle.console_scripts.specs.Inner.Places.{Gains}
use Rattle.console_scripts.specs.Inner.Tapped.{HasCharacter}
use Rattle.console_scripts.proofs.typed.add_pairs.Given as goal

abbrev pub invariant-loop-pair : goal.invariant-loop-pair
invariant-loop-pair l =
    Gains (HasCharacter l.fn.typed) (HasCharacter l.typed)
    (MadeByPairs l.map l.plain l.index (take l.pair-index l.accent.pairs))
