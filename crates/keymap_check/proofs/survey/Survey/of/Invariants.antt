use Rattle.keymap_check.proofs.Common.{◌≡◌, length, MapValue}
use Rattle.keymap_check.specs.Inner.Surveyed.{TellsBelow}
use Rattle.keymap_check.proofs.survey.Survey.of.Given as goal

abbrev pub invariant-loop-key : goal.invariant-loop-key
invariant-loop-key g l = record {
  long : length l.holding ≡ 128;
  told : (m : MapValue) → g.K.Keymap.shows l.map m → TellsBelow m l.holding l.key;
}
