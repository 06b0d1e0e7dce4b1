-- What comes of the way that is taken: its events type the character, and keys can type none for which there is no way.
use Rattle.console_scripts.proofs.Common.{◌≡◌, ◌+◌, ℕ, Bool, true, false, List, [], ◌∷◌, ◌++◌, Option, Some}
use Rattle.console_scripts.proofs.Common.{None, refl}
use Rattle.console_scripts.proofs.Common.{ap, subst, sym, ◌∙◌, inl, inr, append_assoc, cases_Bool, MapValue}
use Rattle.console_scripts.proofs.Common.{Event}
use Rattle.console_scripts.proofs.Common.{Press, Release, Move, State, start, IsPathFrom, state_from, events_along}
use Rattle.console_scripts.proofs.Common.{alone}
use Rattle.console_scripts.proofs.Common.{CanReturn, CanType, HasTyped, Leaves, Routes, TypesOne, reverse, state_of}
use Rattle.console_scripts.proofs.Common.{path-first, ReachesMoreThan, state_limit, presses_along, Explored, IfSome}
use Rattle.console_scripts.proofs.Common.{IsExploredFrom, map_of_explored, origin_in}
use Rattle.console_scripts.specs.declared.seeking.Choice.{Choice}
use Rattle.console_scripts.specs.declared.seeking.Chosen.{Chosen}
use Rattle.console_states.specs.declared.held.Held.{Held}
use Rattle.console_states.proofs.Shared.{none-along}
use Rattle.console_states.specs.Allowed.{all_allowed}
use Rattle.keyboard.specs.declared.board.Board.{Board}
use Rattle.console_scripts.specs.Ways.{DeadTap, IsWayBy, Way, allows_in, events_of_way}
use Rattle.console_scripts.specs.Ways.{HasNoWayFrom, ending_with, is_one_tap, state_at_end}
use Rattle.console_scripts.specs.Inner.Courses.{ReachesMany}
use Rattle.console_scripts.specs.Inner.Exploring.{IsOrigin}
use Rattle.console_scripts.specs.Inner.Seeking.{IsChosen, IsChosenOf}
use Rattle.console_scripts.specs.declared.classes.Class.{Class}
use Rattle.console_scripts.specs.declared.courses.Found.{Found}
use Rattle.console_scripts.specs.declared.courses.Target.{Target}
use Rattle.console_scripts.proofs.Choosing.{reaches-on}
use Rattle.console_scripts.proofs.Exploring.{path-append, returns-origin}
use Rattle.console_scripts.proofs.Picking.{rank-below}
use Rattle.console_scripts.proofs.Taps.{walked}
use Rattle.console_scripts.proofs.WayLaws.{can-way, way-also, way-can, way-types}

-- moves lead to the end of a way
abbrev pub LeadsToEnd : MapValue → State → Way → Type 0
LeadsToEnd m s x =
    (path : List Move) × IsPathFrom (alone m) s path × (state_from (alone m) s path ≡ state_at_end (alone m) s x)

pub way-leads : (m : MapValue) (s : State) (c : Target) (dead : Option DeadTap) (moves : List Move) (key : ℕ)
    → IsWayBy all_allowed m s c (record { dead = dead; moves = moves; key = key })
    → LeadsToEnd m s (record { dead = dead; moves = moves; key = key })
way-leads m s c None moves key is = (moves, is.goes, refl)
way-leads m s c (Some d) moves key is =
    let all = path-append (alone m) s d.moves moves is.begun.1 is.goes in (moves ++ d.moves, all.0, all.1)

-- the first map is in force at the end, and no accent is pending
pub end-origin : (m : MapValue) (s t : State) (x : Way) → IsOrigin s → LeadsToEnd m s x → t ≡ state_at_end (alone m) s x
    → IsOrigin t
end-origin m s t x origin (path, is, there) e = (
  ap (λ z. z.is_second) (e ∙ sym there) ∙ path-first m s path is ∙ origin.0,
  ap (λ z. z.is_pending) (e ∙ sym there) ∙ none-along (alone m) refl s path is origin.1,
)

pub found-leads : (b : Board) (m : MapValue) (s : State) (c : Target) (routes : Routes) (met_all : Bool) (o : Chosen)
    → (chosen : IsChosenOf b m s c routes met_all o) → LeadsToEnd m s chosen.0.way
found-leads b m s c routes met_all o (x, taken) =
    way-leads m s c x.way.dead x.way.moves x.way.key
    (way-also m (allows_in b o.class) all_allowed (λ t k lt may. refl) s c x.way x.is)

-- many states from one that moves lead to are many from the start
pub many-there : (m : MapValue) (s : State) → CanReturn m s → ReachesMany m s
    → (p : ℕ) × ReachesMoreThan (alone m) state_limit p
many-there m s st (p, more) =
    (p + presses_along st.path, reaches-on (alone m) s state_limit p st.path st.is st.leads more)

-- ---- what is typed

pub types-found : (b : Board) (m : MapValue) (s : State) (c : Target) (routes : Routes) (met_all : Bool) (o : Chosen)
    → CanReturn m s → IsChosenOf b m s c routes met_all o → (met_all ≡ false → ReachesMany m s)
    → (h now : List Event) (to : Held)
    → Leaves (alone m) (state_of o.found.held)
    (Release o.found.key ∷ Press o.found.key ∷ (reverse o.found.events.items ++ h)) now (state_of to)
    → TypesOne b m c s h now (record { next = to; class = o.class; before = o.found.presses })
types-found b m s c routes met_all o st (x, taken) many h now to leaves =
    let f : Found = o.found in
    let next : State = state_of to in
    let way : Way = x.way in
    let is : IsWayBy all_allowed m s c way =
    way-also m (allows_in b o.class) all_allowed (λ t k lt may. refl) s c way x.is in
    let (path, goes, there) = way-leads m s c way.dead way.moves way.key is in
    let back : List Event = events_along leaves.back in
    let es : List Event = Release f.key ∷ events_of_way way in
    let end : state_from (alone m) s path ≡ state_of f.held = there ∙ sym x.there in
    let on = path-append (alone m) s path leaves.back goes
    (subst (λ z. IsPathFrom (alone m) z leaves.back) (sym end) leaves.returns) in
    let all = path-append (alone m) start st.path (leaves.back ++ path) st.is
    (subst (λ z. IsPathFrom (alone m) z (leaves.back ++ path)) (sym st.leads) on.0) in
    record {
      can = way-can m s st c way.dead way.moves way.key is;
      can_return = record {
        free = leaves.free;
        path = (leaves.back ++ path) ++ st.path;
        is = all.0;
        leads =
            all.1 ∙ ap (λ z. state_from (alone m) z (leaves.back ++ path)) st.leads ∙ on.1
            ∙ ap (λ z. state_from (alone m) z leaves.back) end ∙ leaves.leads;
        home = leaves.home;
      };
      added = back ++ es;
      events =
          leaves.events ∙ ap (λ z. back ++ Release f.key ∷ (z ++ h)) x.events ∙ sym (append_assoc back es h);
      way = elim (cases_Bool met_all) [
        | inl t ↦
            inl (
              way,
              back ++ Release f.key ∷ [],
              taken t,
              x.count,
              sym (append_assoc back (Release f.key ∷ []) (events_of_way way)),
            )
        | inr f ↦ inr (many-there m s st (many f))
      ];
      types = λ g cs before.
          let typed : HasTyped m (es ++ g) (state_of f.held) None (cs ++ c.character ∷ []) =
          subst (λ z. HasTyped m (Release z ∷ (events_of_way way ++ g)) (state_of f.held) None (cs ++ c.character ∷ []))
          x.key (subst (λ z. HasTyped m (Release way.key ∷ (events_of_way way ++ g)) z None (cs ++ c.character ∷ []))
          (sym x.there) (way-types m s c way.dead way.moves way.key g cs is before)) in
          subst (λ z. HasTyped m z next None (cs ++ c.character ∷ [])) (sym (append_assoc back es g))
          (subst (λ z. HasTyped m (back ++ (es ++ g)) z None (cs ++ c.character ∷ [])) leaves.leads
          (walked m (es ++ g) (state_of f.held) None (cs ++ c.character ∷ []) leaves.back typed leaves.returns));
    }

-- ---- what isn't typed

-- the class of ways that keep to nothing, of one tap or not
any_class : Bool → Class
any_class one = record {
  keeps_to_board = false;
  keeps_locks = false;
  is_one_tap = one;
  avoids_pad = false;
  avoids_86 = false;
}

-- where no class has a way keys can't type the character
pub no-way-of : (b : Board) (m : MapValue) (s : State) (c : ℕ) → CanReturn m s → HasNoWayFrom b m s (ending_with None c)
    → CanType m c → ⊥
unfolding any_class
no-way-of b m s c st none can =
    let (x, is) = can-way m s st c can in
    none (any_class (is_one_tap x.dead)) x (
      refl,
      way-also m all_allowed (allows_in b (any_class (is_one_tap x.dead))) (λ t k lt may. refl) s
          (ending_with None c) x is,
    )

-- ---- what was chosen

-- of the map and the state that were explored
chosen-from : (b : Board) (m : MapValue) (s : State) (c : Target) (v : Explored) (r : Choice) → IsExploredFrom m s v
    → IsChosen b (map_of_explored v) (origin_in v) c v.routes.entries r
    → IsChosen b m s c v.routes.entries r
chosen-from b m s c v r (x, same, from) chosen =
    subst (λ t. IsChosen b m t c v.routes.entries r) from
    (subst (λ n. IsChosen b n (origin_in v) c v.routes.entries r) same chosen)

pub chosen-found : (b : Board) (m : MapValue) (s : State) (c : Target) (v : Explored) (r : Choice) (o : Chosen)
    → IsExploredFrom m s v → IsChosen b (map_of_explored v) (origin_in v) c v.routes.entries r → r.chosen ≡ Some o
    → IsChosenOf b m s c v.routes.entries r.has_met_all o
chosen-found b m s c v r o explored chosen is =
    subst (λ z. IfSome z (IsChosenOf b m s c v.routes.entries r.has_met_all)) is
    (chosen-from b m s c v r explored chosen).found

pub leads-found : (b : Board) (m : MapValue) (s : State) (c : Target) (v : Explored) (r : Choice) (o : Chosen)
    → IsExploredFrom m s v → CanReturn m s → IsChosen b (map_of_explored v) (origin_in v) c v.routes.entries r
    → r.chosen ≡ Some o → (h now : List Event) (to : Held)
    → (IsOrigin (state_of o.found.held) → Leaves (alone (map_of_explored v)) (state_of o.found.held)
    (Release o.found.key ∷ Press o.found.key ∷ (reverse o.found.events.items ++ h)) now (state_of to))
    → TypesOne b m c s h now (record { next = to; class = o.class; before = o.found.presses })
leads-found b m s c v r o explored st chosen is h now to leaves =
    let f : Found = o.found in
    let x : IsChosenOf b m s c v.routes.entries r.has_met_all o = chosen-found b m s c v r o explored chosen is in
    let origin : IsOrigin (state_of f.held) =
    end-origin m s (state_of f.held) x.0.way (returns-origin m s st)
    (found-leads b m s c v.routes.entries r.has_met_all o x) x.0.there in
    types-found b m s c v.routes.entries r.has_met_all o st x (chosen-from b m s c v r explored chosen).many h now to
    (subst (λ n. Leaves (alone n) (state_of f.held) (Release f.key ∷ Press f.key ∷ (reverse f.events.items ++ h)) now
    (state_of to)) explored.1 (leaves origin))

pub leads-none : (b : Board) (m : MapValue) (s : State) (c : Target) (v : Explored) (r : Choice) → IsExploredFrom m s v
    → CanReturn m s → IsChosen b (map_of_explored v) (origin_in v) c v.routes.entries r → r.chosen ≡ None
    → r.has_met_all ≡ true → HasNoWayFrom b m s c
leads-none b m s c v r explored st chosen none all =
    λ w x is. (chosen-from b m s c v r explored chosen).none none all w x (rank-below w) is

pub leads-many : (b : Board) (m : MapValue) (s : State) (c : Target) (v : Explored) (r : Choice) → IsExploredFrom m s v
    → CanReturn m s → IsChosen b (map_of_explored v) (origin_in v) c v.routes.entries r → r.has_met_all ≡ false
    → (p : ℕ) × ReachesMoreThan (alone m) state_limit p
leads-many b m s c v r explored st chosen some =
    many-there m s st ((chosen-from b m s c v r explored chosen).many some)
