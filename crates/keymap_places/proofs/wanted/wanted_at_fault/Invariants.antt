use Rattle.keymap_places.proofs.Common.{◌≡◌, ◌≤◌, ◌-◌, length, None, tokens, AtDefinition, first_refused, tokens_from}
use Rattle.keymap_places.specs.Inner.Leading.{IsPlace}
use Rattle.keymap_places.specs.Wanted.{row_place}
use Rattle.keymap_places.proofs.wanted.wanted_at_fault.Given as goal

-- what the tokens to come lead to is what all lead to
abbrev pub invariant-loop-token : goal.invariant-loop-token
invariant-loop-token l = record {
  within : l.behind ≤ length l.text;
  place : IsPlace l.wanted;
  reached : first_refused (row_place l.wanted) l.definition l.behind (tokens_from l.text l.behind)
      ≡ first_refused AtDefinition None 0 (tokens l.text);
}

abbrev pub decreases-loop-token : goal.decreases-loop-token
decreases-loop-token l = length l.text - l.behind
