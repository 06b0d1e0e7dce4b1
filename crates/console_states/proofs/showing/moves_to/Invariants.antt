-- the moves so far are those of the path but for what is left
use Rattle.console_states.proofs.Common.{◌≡◌, ◌<◌, List, ◌++◌, length, IfSome, IsTrail, Move}
use Rattle.console_states.proofs.GoingBack.{LeadsBy, places_left}
use Rattle.console_states.proofs.showing.moves_to.Given as goal

abbrev pub invariant-loop-last : goal.invariant-loop-last
invariant-loop-last l = record {
  within : IfSome l.last (λ last. last.0 < length l.met.entries);
  left : (path : List Move) → IsTrail l.met.entries l.fn.place path
      → (rest : List Move) × (l.moves.items ++ rest ≡ path) × LeadsBy l.met.entries l.last rest;
}

abbrev pub decreases-loop-last : goal.decreases-loop-last
decreases-loop-last l = places_left l.last
