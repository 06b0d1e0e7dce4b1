-- What an exploration met, and which taps can be made.
use Rattle.console_scripts.proofs.Common.{◌≡◌, ◌⊎◌, ℕ, true, List, [], ◌∷◌, ◌++◌, length, slice_get, Some}
use Rattle.console_scripts.proofs.Common.{refl, ap, subst, sym, ◌∙◌, inl, inr, reverse, rules}
use Rattle.console_scripts.proofs.Common.{cases_Bool, Held, MapValue, Event, Move, Explored}
use Rattle.console_scripts.proofs.Common.{Under, alone, State, start, state_after, IsPathFrom, state_from}
use Rattle.console_scripts.proofs.Common.{events_along, ComesHome}
use Rattle.console_scripts.proofs.Common.{map_of_explored, origin_in, IsExplored, CanReturn, LetsGo}
use Rattle.console_scripts.proofs.Common.{LeadsHome, Routes, AllLeadHome, HasRoute}
use Rattle.console_scripts.proofs.Common.{AreSettled, freed, state_of, Entry, Entries, IsReached, Searched}
use Rattle.console_scripts.proofs.Common.{is-nothing, are_same, home-start, all-met, path-first, reached-one, IsHome}
use Rattle.console_states.proofs.Shared.{none-along}
use Rattle.console_scripts.proofs.Entries.{none-found, found-has}
use Rattle.console_scripts.specs.Inner.Exploring.{IsOrigin, Leaves}
use Rattle.console_scripts.proofs.Astray.{strays-on, StraysTo, is-astray}

-- a route that begins at a state leads home
pub has-leads : (u : Under) (routes : Routes) (s : State) → AllLeadHome u routes → HasRoute routes s
    → (moves : List Move) × LeadsHome u s moves
has-leads u [] s all has = absurd has
has-leads u (x ∷ routes) s all (inl is) = (x.1.moves.items, subst (λ t. LeadsHome u t x.1.moves.items) is all.0)
has-leads u (x ∷ routes) s all (inr later) = has-leads u routes s all.1 later

pub has-home : (u : Under) (routes : Routes) (s : State) → AllLeadHome u routes → HasRoute routes s → ComesHome u s
has-home u routes s all has = let (moves, home) = has-leads u routes s all has in (reverse moves, home.0, home.1)

-- a path behind another
pub path-append : (u : Under) (s : State) (path later : List Move) → IsPathFrom u s path
    → IsPathFrom u (state_from u s path) later
    → IsPathFrom u s (later ++ path) × (state_from u s (later ++ path) ≡ state_from u (state_from u s path) later)
path-append u s path [] is more = (is, refl)
path-append u s path (move ∷ later) is more = search (rules, path-append u s path later is more.1)

-- ---- from a state where nothing is held, or home

-- all holders let go, where a route begins then
pub leaves-freed : (u : Under) (routes : Routes) (s : State) (h now : List Event) (next : State)
    → AllLeadHome u routes → LetsGo s h now next → HasRoute routes (freed s) → Leaves u s h now next
leaves-freed u routes s h now next all go has = record {
  back = go.path;
  returns = go.is u;
  leads = go.leads u;
  events = go.events;
  free = λ i. ap (λ t. t.holder i) go.freed;
  home = subst (λ t. ComesHome u t) (sym go.freed) (has-home u routes (freed s) all has);
}

-- the route home
pub leaves-home : (m : MapValue) (s : State) (h now : List Event) (moves : List Move) (next : State) → IsOrigin s
    → LeadsHome (alone m) s moves → now ≡ events_along (reverse moves) ++ h → next ≡ start
    → Leaves (alone m) s h now next
leaves-home m s h now moves next origin home e is =
    search (rules, home-start, path-first, none-along)

-- a state that can return is an origin
pub returns-origin : (m : MapValue) (s : State) → CanReturn m s → IsOrigin s
returns-origin m s st = search (rules, path-first, none-along)

pub start-returns : (m : MapValue) → CanReturn m start
start-returns m = search rules

-- ---- which taps can be made

-- moves from a state without a route stay astray
strays-from : {os : List State} (m : MapValue) (es : Entries) (routes : Routes)
    → Searched (alone m) os es (length es) (length es) → AreSettled (alone m) es routes → (s : State) (path : List Move)
    → IsPathFrom (alone m) s path → StraysTo es routes s
    → StraysTo es routes (state_from (alone m) s path)
strays-from m es routes searched settled s [] is strays = strays
strays-from m es routes searched settled s (move ∷ path) is strays =
    search (rules, strays-on, strays-from m es routes searched settled s path is.1 strays)

-- a route begins at a state, or none does
route-or-none : (routes : Routes) (k : Held) → HasRoute routes (state_of k) ⊎ (HasRoute routes (state_of k) → ⊥)
route-or-none routes k = search (rules, cases_Bool, are_same, found-has, none-found, is-nothing)

-- a route begins where moves lead home from
pub comes-route : {os : List State} (m : MapValue) (es : Entries) (routes : Routes)
    → Searched (alone m) os es (length es) (length es) → AreSettled (alone m) es routes → (j : ℕ) (x : Entry)
    → slice_get es j ≡ Some x → ComesHome (alone m) (state_of x.0)
    → HasRoute routes (state_of x.0)
comes-route m es routes searched settled j x at (later, is, home) = elim (route-or-none routes x.0) [
  | inl has ↦ has
  | inr none ↦
      let (i, y, there, same, no_route) =
      strays-from m es routes searched settled (state_of x.0) later is (j, x, at, refl, none) in
      absurd ((is-astray (alone m) es routes settled i y there no_route).0 (subst IsHome (sym same) home))
]

-- What is so in a state that moves lead to and from which more lead home is so in a complete exploration at a place
-- from which a route leads home.
pub so-met : (e : Explored) → IsExplored e → e.is_complete ≡ true → CanReturn (map_of_explored e) (origin_in e)
    → (P : State → Type 0) → (path : List Move)
    → IsPathFrom (alone (map_of_explored e)) start path
    → ComesHome (alone (map_of_explored e)) (state_after (alone (map_of_explored e)) path)
    → P (state_after (alone (map_of_explored e)) path)
    → (j : ℕ) × (y : Entry) × (slice_get e.met.entries j ≡ Some y) × HasRoute e.routes.entries (state_of y.0)
    × P (state_of y.0)
so-met e x complete st P path is comes so =
    let m : MapValue = map_of_explored e in
    let u : Under = alone m in
    let o : State = origin_in e in
    let es : Entries = e.met.entries in
    let (searched, settled) = x.whole complete in
    let (back, returns, at_home) = st.home in
    let begins : state_from u o back ≡ start =
    home-start (state_from u o back) at_home (path-first m o back returns ∙ (returns-origin m o st).0)
    (none-along u refl o back returns (returns-origin m o st).1) in
    let all = path-append u o back path returns (subst (λ z. IsPathFrom u z path) (sym begins) is) in
    let (j, y, at, met) = all-met u es searched (path ++ back) all.0 in
    let same : state_of y.0 ≡ state_after u path = met ∙ all.1 ∙ ap (λ z. state_from u z path) begins in
    let route : HasRoute e.routes.entries (state_of y.0) =
    comes-route m es e.routes.entries searched settled j y at (subst (λ z. ComesHome u z) (sym same) comes) in
    (j, y, at, route, subst P (sym same) so)

-- What is so at a place from which a route leads home is so where moves lead to and from which more lead home.
pub so-can : (e : Explored) → IsExplored e → CanReturn (map_of_explored e) (origin_in e) → (P : State → Type 0)
    → (j : ℕ) (y : Entry) → slice_get e.met.entries j ≡ Some y → HasRoute e.routes.entries (state_of y.0)
    → P (state_of y.0)
    → (path : List Move) × IsPathFrom (alone (map_of_explored e)) start path
    × ComesHome (alone (map_of_explored e)) (state_after (alone (map_of_explored e)) path)
    × P (state_after (alone (map_of_explored e)) path)
so-can e x st P j y at has so =
    let m : MapValue = map_of_explored e in
    let u : Under = alone m in
    let r : IsReached u (origin_in e) e.met.entries j y = reached-one x.searched j y at in
    let all = path-append u start st.path r.0 st.is (subst (λ s. IsPathFrom u s r.0) (sym st.leads) r.2) in
    let there : state_after u (r.0 ++ st.path) ≡ state_of y.0 =
    all.1 ∙ ap (λ s. state_from u s r.0) st.leads ∙ r.3 in (
      r.0 ++ st.path,
      all.0,
      subst (λ s. ComesHome u s) (sym there) (has-home u e.routes.entries (state_of y.0) x.home has),
      subst P (sym there) so,
    )
