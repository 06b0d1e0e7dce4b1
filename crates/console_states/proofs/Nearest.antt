-- What a search tells of all that moves lead to: by as few presses it met each state. So what holds below a place holds
-- wherever fewer presses lead.
use Rattle.console_states.proofs.Common.{suc, ◌≡◌, ℕ, ◌+◌, ◌<◌, List, [], ◌∷◌, length, slice_get, Some, refl}
use Rattle.console_states.proofs.Common.{rules, subst, sym, arith, cases_lt, slice_get_within, Move, End}
use Rattle.console_states.proofs.Common.{TooMany, Complete, Under, State, IsMove, moved, presses_of, presses_along}
use Rattle.console_states.proofs.Common.{IsPathFrom, state_from, state_of, Held, Entry, Entries, IsMetBy, AreDone}
use Rattle.console_states.proofs.Common.{Searched}
use Rattle.console_states.proofs.Common.{HasEnded, Contains}
use Rattle.console_states.specs.Looks.{HoldsBelow, HoldsNearer}
use Rattle.console_states.specs.Searching.{AreOrdered}
use Rattle.console_states.proofs.Beginning.{start-one}
use Rattle.console_states.proofs.Searching.{met-up, all-done}

-- where a move leads from a state that was met, by fewer than n presses
pub met-moved : (u : Under) (es : Entries) (n : ℕ) → AreDone u es n → (p q : ℕ) (s : State) (move : Move)
    → p + presses_of move ≡ q → q < n → IsMetBy es p s → IsMove u s move → IsMetBy es q (moved u s move)
met-moved u es n done p q s move e lt (j, x, at, is, le) can =
    met-up es (x.1.presses + presses_of move) q (moved u s move) (omega (arith, le, e))
    (rw (← is) (done j x at move (subst (λ z. IsMove u z move) (sym is) can) (omega (arith, le, e, lt))))

-- where a path leads from it
pub met-along : (u : Under) (es : Entries) (n : ℕ) → AreDone u es n → (p q : ℕ) (s : State) → IsMetBy es p s
    → (path : List Move) → IsPathFrom u s path → p + presses_along path ≡ q → q < n
    → IsMetBy es q (state_from u s path)
met-along u es n done p q s met [] is e lt = met-up es p q s (omega (arith, e)) met
met-along u es n done p q s met (move ∷ path) is e lt =
    met-moved u es n done (p + presses_along path) q (state_from u s path) move (omega (arith, e)) lt
    (met-along u es n done p (p + presses_along path) s met path is.1 refl (omega (arith, e, lt))) is.0

-- the state was met
abbrev pub IsMet : Entries → State → Type 0
IsMet es s = (j : ℕ) × (x : Entry) × (slice_get es j ≡ Some x) × (state_of x.0 ≡ s)

-- where all states were met, a path from one leads to one
pub all-along : {os : List State} (u : Under) (es : Entries) → Searched u os es (length es) (length es) → (s : State)
    (path : List Move) → IsMet es s → IsPathFrom u s path → IsMet es (state_from u s path)
all-along u es searched s path (j, x, at, same) is =
    let q : ℕ = x.1.presses + presses_along path in
    let (i, y, there, leads, few) =
    met-along u es (suc q) (all-done u es searched (suc q)) x.1.presses q s (j, x, at, same, omega arith) path is refl
    (omega arith) in
    (i, y, there, leads)

pub all-met : {o : State} (u : Under) (es : Entries) → Searched u (o ∷ []) es (length es) (length es)
    → (path : List Move) → IsPathFrom u o path → IsMet es (state_from u o path)
all-met {o} u es s path is = let (j, x, at, e, le) = start-one s in all-along u es s o path (j, x, at, e) is

-- what holds below a place holds of what was met by fewer presses
pub below-fewer : (es : Entries) (P : Held → Type 0) → AreOrdered es → (j : ℕ) (x : Entry) → slice_get es j ≡ Some x
    → HoldsBelow P es j → (i : ℕ) (y : Entry) → slice_get es i ≡ Some y → y.1.presses < x.1.presses → P y.0
below-fewer es P ordered j x at below i y there lt = search (rules, cases_lt)

-- where fewer presses lead than to a place is done
pub done-before : {os : List State} (u : Under) (es : Entries) (end : End) → HasEnded u os es end → (j : ℕ) (x : Entry)
    → slice_get es j ≡ Some x → AreDone u es x.1.presses
done-before u es Complete ended j x at = all-done u es ended.is.0 x.1.presses
done-before u es (TooMany p) ended j x at = search rules

-- what holds of what was met by fewer than n presses holds wherever fewer lead, where that is done
pub holds-nearer : (u : Under) (es : Entries) (n : ℕ) → AreDone u es n → (P : State → Type 0)
    → ((j : ℕ) (x : Entry) → slice_get es j ≡ Some x → x.1.presses < n → P (state_of x.0))
    → (o : State) → IsMetBy es 0 o → HoldsNearer u o P n
holds-nearer u es n done P holds o met path is lt =
    let (j, x, at, same, few) = met-along u es n done 0 (presses_along path) o met path is (omega arith) lt in
    subst P same (holds j x at (omega (arith, few, lt)))

-- so the place where something first shows is the nearest
pub is-nearest : {os : List State} (u : Under) (es : Entries) (end : End) → HasEnded u os es end → (P : State → Type 0)
    → (j : ℕ) (x : Entry) → slice_get es j ≡ Some x → HoldsBelow (λ h. P (state_of h)) es j → (o : State)
    → Contains os o → HoldsNearer u o P x.1.presses
is-nearest u es end ended P j x at below o has =
    holds-nearer u es x.1.presses (done-before u es end ended j x at) P
    (below-fewer es (λ h. P (state_of h)) ended.ordered j x at below) o (ended.searched.start o has)

-- and what shows nowhere among all states is where no path leads
pub is-nowhere : {os : List State} (u : Under) (es : Entries) → Searched u os es (length es) (length es)
    → (P : State → Type 0) → HoldsBelow (λ h. P (state_of h)) es (length es) → (o : State) → Contains os o
    → (path : List Move) → IsPathFrom u o path → P (state_from u o path)
is-nowhere u es searched P all o has path is =
    let n : ℕ = suc (presses_along path) in
    holds-nearer u es n (all-done u es searched n) P (λ j x at lt. all j x at (slice_get_within es j x at)) o
    (searched.start o has) path is (omega arith)
