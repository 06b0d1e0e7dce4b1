use Rattle.keymap_check.proofs.Common.{◌≡◌, MapValue, bearer_below, IsSurvey}
use Rattle.keymap_check.proofs.bearer.bearer_of.Given as goal

abbrev pub invariant-loop-key : goal.invariant-loop-key
invariant-loop-key g l =
    (m : MapValue) → g.K.Keymap.shows l.map m → IsSurvey m l.survey → l.bearer ≡ bearer_below m l.holding l.key
