-- A search that minds an accent, beside one that minds none: where the accent is pending, and where it isn't.
use Rattle.std.specs.Prelude.{◌≡◌, ℕ, false, List, ◌++◌, None}
use Rattle.console_states.specs.Types.{Move}
use Rattle.console_states.specs.Moves.{Under, State, IsPathFrom, state_from, presses_along}
use Rattle.console_states.specs.Sights.{IsOfferedIn}

-- a path of n presses leads from the one state to the other
abbrev pub LeadsBy : Under → State → ℕ → State → Type 0
LeadsBy u s n t =
    (path : List Move) × IsPathFrom u s path × (state_from u s path ≡ t) × (presses_along path ≡ n)

-- and the accent is offered in a state that it leads through
abbrev pub OffersBy : Under → State → ℕ → ℕ → State → Type 0
OffersBy u s accent n t =
    (later before : List Move) × IsPathFrom u s (later ++ before) × IsOfferedIn u (state_from u s before) accent
    × (state_from u s (later ++ before) ≡ t) × (presses_along (later ++ before) ≡ n)

-- the accent isn't pending
abbrev pub without_accent : State → State
without_accent s = record s { is_pending = false }

-- no accent is minded, no loads come, and none is pending in the state
abbrev pub IsPlain : Under → State → Type 0
IsPlain u s = (u.minded ≡ None) × (u.has_loads ≡ false) × (s.is_pending ≡ false)
