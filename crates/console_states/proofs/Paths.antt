-- Paths in two parts.
use Rattle.console_states.proofs.Common.{◌≡◌, List, [], ◌∷◌, ◌++◌, refl, Move, Under, State, IsPathFrom, state_from}
use Rattle.console_states.proofs.Common.{presses_along, ◌+◌, arith}
use Rattle.console_states.proofs.Common.{rules}

-- a path in two parts
pub path-split : (u : Under) (s : State) (later before : List Move) → IsPathFrom u s (later ++ before)
    → IsPathFrom u s before × IsPathFrom u (state_from u s before) later
    × (state_from u s (later ++ before) ≡ state_from u (state_from u s before) later)
path-split u s [] before is = (is, tt, refl)
path-split u s (move ∷ later) before is = search (rules, path-split u s later before is.1)

pub presses-append : (path later : List Move) → presses_along (later ++ path) ≡ presses_along path + presses_along later
presses-append path [] = omega arith
presses-append path (move ∷ later) = let e = presses-append path later in omega (arith, e)
