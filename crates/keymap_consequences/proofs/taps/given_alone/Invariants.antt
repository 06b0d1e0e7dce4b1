-- the actions whose codes are below this one are listed
use Rattle.keymap_core.specs.Actions.{code_of}
use Rattle.keymap_core.specs.Maps.{MapValue}
use Rattle.console_scripts.specs.Typing.{AreGiven}
use Rattle.keymap_consequences.proofs.Codes.{IsCodeAlone}
use Rattle.keymap_consequences.proofs.Listing.{StandBelow}
use Rattle.keymap_consequences.specs.Consequences.{IsGivenAlone}
use Rattle.keymap_consequences.proofs.taps.given_alone.Given as goal

abbrev pub invariant-loop-code : goal.invariant-loop-code
invariant-loop-code l =
    (m n : MapValue) → AreGiven m l.these → AreGiven n l.others
    → StandBelow code_of (IsGivenAlone m n) (IsCodeAlone m n) l.code l.actions.items
