-- The moves that lead home from the states that a search met, and the events of a script that goes along them. Mirrors
-- src/routes.rt and src/showing.rt.
use Rattle.std.specs.Prelude.{◌≡◌, ◌⊎◌, ℕ, List, [], ◌∷◌, reverse, None, Some, slice_get}
use Rattle.keymap_core.specs.declared.action.Modifier.{Modifier}
use Rattle.console_states.specs.declared.held.Held.{Held}
use Rattle.console_states.specs.declared.held.Move.{Move}
use Rattle.console_scripts.specs.declared.routes.Route.{Route}
use Rattle.console_states.specs.Moves.{Under, State, IsMove, moved, Holds, state_from, IsPathFrom}
use Rattle.console_states.specs.Moves.{with_holder}
use Rattle.console_states.specs.Returning.{IsHome}
use Rattle.console_states.specs.Searching.{state_of, Entry, Entries, PressesLead}

-- the moves, the oldest first, lead home
abbrev pub LeadsHome : Under → State → List Move → Type 0
LeadsHome u s moves =
    IsPathFrom u s (reverse moves) × IsHome (state_from u s (reverse moves))

-- routes by the state where they begin
abbrev pub Routes : Type 0
Routes = List (Held × Route)

-- what holds of each entry of a map
abbrev pub AllEntries : {K V : Type 0} → (K → V → Type 0) → List (K × V) → Type 0
AllEntries P [] = Unit {0}
AllEntries P (x ∷ es) = P x.0 x.1 × AllEntries P es

-- an entry of a map by states is of this one
abbrev pub HasEntry : {V : Type 0} → List (Held × V) → State → Type 0
HasEntry [] s = ⊥
HasEntry (x ∷ es) s = (state_of x.0 ≡ s) ⊎ HasEntry es s

abbrev pub AllLeadHome : Under → Routes → Type 0
AllLeadHome u routes = AllEntries (λ k r. LeadsHome u (state_of k) r.moves.items) routes

-- a route begins at the state
abbrev pub HasRoute : Routes → State → Type 0
HasRoute routes s = HasEntry routes s

-- letting go of no modifier leads to where a route begins
abbrev pub NoLetGoLeads : Routes → State → Type 0
NoLetGoLeads routes s = (k : ℕ) (i : Modifier) → Holds s k i → HasRoute routes (with_holder s i None) → ⊥

-- a press of the key leads to no state where a route begins
abbrev pub NoPressLeads : Under → Routes → State → ℕ → Type 0
NoPressLeads u routes s k = PressesLead u s k (λ t. HasRoute routes t → ⊥)

-- The state isn't home, and no move leads from it to where a route begins.
abbrev pub IsAstray : Under → Routes → State → Type 0
IsAstray u routes s =
    (IsHome s → ⊥) × ((move : Move) → IsMove u s move → HasRoute routes (moved u s move) → ⊥)

-- a route begins at each state that was met, or the state is astray
abbrev pub AreSettled : Under → Entries → Routes → Type 0
AreSettled u es routes =
    (j : ℕ) (x : Entry) → slice_get es j ≡ Some x
    → HasRoute routes (state_of x.0) ⊎ IsAstray u routes (state_of x.0)
