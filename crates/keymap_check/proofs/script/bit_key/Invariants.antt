use Rattle.keymap_check.proofs.Common.{◌≡◌, None, MapValue, first_below, IsSurvey, bears_group, is_other}
use Rattle.keymap_check.proofs.script.bit_key.Given as goal

abbrev pub invariant-loop-key : goal.invariant-loop-key
invariant-loop-key g l =
    (m : MapValue) → g.K.Keymap.shows l.map m → IsSurvey m l.survey
    → first_below (is_other (bears_group m l.bit) l.tried) l.key ≡ None
