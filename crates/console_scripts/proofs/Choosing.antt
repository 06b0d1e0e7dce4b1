-- An exploration of a state from which moves lead home: where it met no more than some of the states, there are many.
use Rattle.console_scripts.proofs.Common.{◌≡◌, ◌+◌, ℕ, false, List, [], ◌∷◌, ◌++◌, ap, subst}
use Rattle.console_scripts.proofs.Common.{sym, ◌∙◌, inl, inr, arith, cases_Bool, MapValue, Move, Explored}
use Rattle.console_scripts.proofs.Common.{Under, alone, State, start, IsPath, state_after}
use Rattle.console_scripts.proofs.Common.{IsPathFrom, state_from, presses_along, ReachesMoreThanFrom}
use Rattle.console_scripts.proofs.Common.{ComesHome, HasRoute, map_of_explored, origin_in, CanReturn, IsExploredFrom}
use Rattle.console_scripts.proofs.Common.{ReachesMoreThan, state_limit, start-one}
use Rattle.console_scripts.proofs.Exploring.{comes-route, path-append}

-- ---- an exploration of a state from which moves lead home

pub explored-returns : (m : MapValue) (s : State) (e : Explored) → IsExploredFrom m s e → CanReturn m s
    → CanReturn (map_of_explored e) (origin_in e)
explored-returns m s e v st =
    subst (λ n. CanReturn n (origin_in e)) (sym v.1) (subst (λ t. CanReturn m t) (sym v.2) st)

-- ---- too many states

pub presses-append : (path later : List Move) → presses_along (later ++ path) ≡ presses_along path + presses_along later
presses-append path [] = omega arith
presses-append path (move ∷ later) =
    let e = presses-append path later in omega (arith, e)

-- states that paths from a state lead to that a path from the start leads to
pub reaches-on : (u : Under) (s : State) (n p : ℕ) (path : List Move) → IsPath u path → state_after u path ≡ s
    → ReachesMoreThanFrom u s n p
    → ReachesMoreThan u n (p + presses_along path)
reaches-on u s n p path is leads (states, paths, apart) = (
  states,
  (λ j le.
      let (later, goes, few, to) = paths j le in
      let all = path-append u start path later is (subst (λ t. IsPathFrom u t later) (sym leads) goes) in
      let count = presses-append path later in
      (later ++ path, all.0, omega (arith, few, count), all.1 ∙ ap (λ t. state_from u t later) leads ∙ to)),
  apart,
)

pub too-many : (m : MapValue) (s : State) (e : Explored) → IsExploredFrom m s e → CanReturn m s → e.is_complete ≡ false
    → (p : ℕ) × ReachesMoreThan (alone m) state_limit p
too-many m s e v st partial =
    let (p, more) = v.0.more partial in
    let there : ReachesMoreThanFrom (alone m) s state_limit p =
    rw (← v.2, ← v.1) more in
    (p + presses_along st.path, reaches-on (alone m) s state_limit p st.path st.is st.leads there)

-- ---- home

-- where no route begins at such a state, there are too many states
pub no-route : (m : MapValue) (s : State) (e : Explored) → IsExploredFrom m s e → CanReturn m s
    → (HasRoute e.routes.entries (origin_in e) → ⊥)
    → (p : ℕ) × ReachesMoreThan (alone m) state_limit p
no-route m s e v st none = elim (cases_Bool e.is_complete) [
  | inl complete ↦
      let (searched, settled) = v.0.whole complete in
      let (j, x, at, is, le) = start-one searched in
      let here = explored-returns m s e v st in
      absurd (none (rw (← is) (comes-route (map_of_explored e) e.met.entries e.routes.entries searched settled j x at
      (subst (λ t. ComesHome (alone (map_of_explored e)) t) (sym is) here.home))))
  | inr partial ↦ too-many m s e v st partial
]
