use Rattle.keymap_check.proofs.Common.{◌≡◌, ◌≤◌, array_vec_len, gathered, MapValue, findings_at, IsSurvey}
use Rattle.keymap_check.proofs.finding.findings.Given as goal

abbrev pub invariant-loop-key : goal.invariant-loop-key
invariant-loop-key g l = record {
  found : (m : MapValue) → g.K.Keymap.shows l.map m → IsSurvey m l.survey
      → l.findings.items ≡ gathered (findings_at m) l.key;
  room : array_vec_len l.findings ≤ l.key;
}
