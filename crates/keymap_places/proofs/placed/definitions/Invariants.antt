use Rattle.keymap_places.proofs.Common.{◌≡◌, All, ◌≤◌, ◌++◌, ◌-◌, length, map, vec_len, tokens, span_of, StandsAmong}
use Rattle.keymap_places.proofs.Common.{begun, tokens_from}
use Rattle.keymap_places.proofs.placed.definitions.Given as goal

-- what was found so far, and what is in the tokens to come, are what is in the text
abbrev pub invariant-loop-token : goal.invariant-loop-token
invariant-loop-token l = record {
  within : l.at ≤ length l.text;
  spans : l.spans.items ++ map span_of (tokens_from l.text l.at) ≡ map span_of (tokens l.text);
  begun : l.definitions.items ++ begun l.left (vec_len l.spans) (tokens_from l.text l.at)
      ≡ begun 0 0 (tokens l.text);
  among : All (StandsAmong (vec_len l.spans)) l.definitions.items;
}

abbrev pub decreases-loop-token : goal.decreases-loop-token
decreases-loop-token l = length l.text - l.at
