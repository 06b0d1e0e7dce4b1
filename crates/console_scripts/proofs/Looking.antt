-- What the look for the first place that ends a way tells: the nearest way, or that there is none.
use Rattle.console_scripts.proofs.Common.{◌≡◌, ◌+◌, ◌≤◌, ℕ, true, false, [], ◌∷◌, Option, Some, None, refl}
use Rattle.console_scripts.proofs.Common.{ap, subst, sym, ◌∙◌, inl, inr, arith, length, cases_lt, cases_Bool, slice_get}
use Rattle.console_scripts.proofs.Common.{MapValue, State, Explored, KeyAt, CanReturn, IsExploredFrom, HasEnded, Entry}
use Rattle.console_scripts.proofs.Common.{◌&&◌, and_parts, none-some, same_Some, origin_in, Under, AllLeadHome}
use Rattle.console_scripts.proofs.Common.{state_of, presses_along, alone}
use Rattle.console_states.specs.Allowed.{Allows, is_pressed}
use Rattle.console_states.proofs.Shared.{is-nearest, is-nowhere}
use Rattle.console_states.specs.Looks.{HoldsBelow, HoldsNearer, IsFirst}
use Rattle.console_states.specs.declared.search.End.TheVariants as end
use Rattle.keyboard.specs.declared.board.Board.{Board}
use Rattle.std.specs.Option.{is_none}
use Rattle.console_scripts.specs.Ways.{IsWayBy, Way, presses_of_way, state_at_end}
use Rattle.console_scripts.proofs.Common.{IfSome, Routes, look_in, selection_of, true≢false}
use Rattle.console_states.specs.Moves.{alone_by}
use Rattle.console_scripts.specs.declared.seeking.Looked.{Looked}
use Rattle.console_scripts.specs.Inner.Courses.{EndsAt, IsEnding, IsNearestAt, IsReached, LackAll, ReachesMany}
use Rattle.console_scripts.specs.Inner.Courses.{allows_but}
use Rattle.console_scripts.specs.Inner.Courses.{under_by}
use Rattle.console_scripts.specs.Inner.Seeking.{HasAccent, IsFound, IsLooked}
use Rattle.console_scripts.specs.declared.courses.Course.{Course}
use Rattle.console_scripts.specs.declared.courses.Ending.{Ending}
use Rattle.console_scripts.specs.declared.courses.Found.{Found}
use Rattle.console_scripts.specs.declared.courses.Reached.{Reached}
use Rattle.console_scripts.specs.declared.courses.Target.{Target}
use Rattle.console_scripts.proofs.Coursing.{place-found, taken-allowed, way-ends, way-made}

-- no key ends a way in the state
abbrev EndsNone : MapValue → Ending → Explored → State → Type 0
EndsNone m e v s = (k : ℕ) → EndsAt m e v.routes.entries s k → ⊥

-- each way has as many presses as the first place that ends one
pub first-nearest : (b : Board) (m : MapValue) (o : Course) (c : Target) (e : Ending) (r : Reached) (v : Explored)
    (at : KeyAt) (x : Entry) (y : Way) → IsReached b m o r → IsEnding b m o c e → IsExploredFrom m (state_of o.from) v
    → v.is_complete ≡ true → slice_get r.met.entries at.place ≡ Some x
    → HoldsBelow (λ h. EndsNone m e v (state_of h)) r.met.entries at.place → HasAccent o.accent y
    → IsWayBy (allows_but b o.class o.spared) m (state_of o.from) c y
    → x.1.presses + 1 ≤ presses_of_way y
first-nearest b m o c e r v at x y got ends explored complete here below acc is =
    let s : State = state_of o.from in
    let u : Under = under_by (is_pressed got.presses) o.accent m in
    let (path, goes, ended, count) = way-ends b m o c e r v y got ends explored complete acc is in
    let nearer : HoldsNearer u s (EndsNone m e v) x.1.presses =
    is-nearest u r.met.entries got.end got.ended (EndsNone m e v) at.place x here below s (0, omega arith, refl) in
    elim (cases_lt (presses_along path) x.1.presses) [
      | inl lt ↦ absurd (nearer path goes lt y.key ended)
      | inr le ↦ omega (arith, le, count)
    ]

-- where no place ends one there is none, if all states were met
pub nowhere-none : (b : Board) (m : MapValue) (o : Course) (c : Target) (e : Ending) (r : Reached) (v : Explored)
    (y : Way) → IsReached b m o r → IsEnding b m o c e → IsExploredFrom m (state_of o.from) v → v.is_complete ≡ true
    → r.is_complete ≡ true → HoldsBelow (λ h. EndsNone m e v (state_of h)) r.met.entries (length r.met.entries)
    → HasAccent o.accent y → IsWayBy (allows_but b o.class o.spared) m (state_of o.from) c y → ⊥
nowhere-none b m o c e r v y got ends explored complete all none acc is =
    let s : State = state_of o.from in
    let u : Under = under_by (is_pressed got.presses) o.accent m in
    let (path, goes, ended, count) = way-ends b m o c e r v y got ends explored complete acc is in
    let whole : HasEnded u (s ∷ []) r.met.entries end.Complete =
    subst (λ z. HasEnded u (s ∷ []) r.met.entries z) (got.complete all) got.ended in
    is-nowhere u r.met.entries whole.is.0 (EndsNone m e v) none s (0, omega arith, refl) path goes y.key ended

-- ---- both together

home-of : (m : MapValue) (s : State) (v : Explored) → IsExploredFrom m s v → AllLeadHome (alone m) v.routes.entries
home-of m s v (x, map, from) = subst (λ n. AllLeadHome (alone n) v.routes.entries) map x.home

are-many : (b : Board) (m : MapValue) (o : Course) (r : Reached) (v : Explored) → IsReached b m o r
    → IsExploredFrom m (state_of o.from) v → (r.is_complete && v.is_complete) ≡ false → ReachesMany m (state_of o.from)
are-many b m o r v got (x, map, from) t = elim (cases_Bool r.is_complete) [
  | inl all ↦
      let partial : v.is_complete ≡ false = rw all at t in
      subst (λ z. ReachesMany m z) from (subst (λ n. ReachesMany n (origin_in v)) map (x.more partial))
  | inr some ↦ got.partial some
]

pub looked-in : (b : Board) (m : MapValue) (o : Course) (c : Target) (e : Ending) (r : Reached) (v : Explored)
    (f : Option Found) → IsReached b m o r → IsExploredFrom m (state_of o.from) v → CanReturn m (state_of o.from)
    → IsEnding b m o c e → IsNearestAt m e v.routes.entries r.met.entries f
    → IsLooked (allows_but b o.class o.spared) m (state_of o.from) c (is_none o.accent) (HasAccent o.accent)
    v.routes.entries (record { found = f; has_met_all = r.is_complete && v.is_complete })
looked-in b m o c e r v None got explored st ends (None, look, none) = record {
  found = tt;
  all = λ t y acc is.
      let both = and_parts r.is_complete v.is_complete t in
      nowhere-none b m o c e r v y got ends explored both.1 both.0 look.is acc is;
  many = λ t. are-many b m o r v got explored t;
}
looked-in b m o c e r v None got explored st ends (Some at, look, none) = absurd (none-some at (sym none))
looked-in b m o c e r v (Some f) got explored st ends (o2, look, (at, is, found)) =
    let first : IsFirst (λ h. EndsAt m e v.routes.entries (state_of h)) r.met.entries (Some at) =
    subst (λ z. IsFirst (λ h. EndsAt m e v.routes.entries (state_of h)) r.met.entries z) is look in
    let ((x, here, ended), below) = first.is in
    let entry : found.entry ≡ x = same_Some found.entry x (sym found.there ∙ here) in
    record {
      found = place-found b m o c e r v.routes.entries at x f got ends (home-of m (state_of o.from) v explored) here
          ended found;
      all = λ t y acc way.
          let both = and_parts r.is_complete v.is_complete t in
          let near = first-nearest b m o c e r v at x y got ends explored both.1 here below acc way in
          let count : f.presses ≡ x.1.presses = found.presses ∙ ap (λ (z : Entry). z.1.presses) entry in
          omega (arith, near, count);
      many = λ t. are-many b m o r v got explored t;
    }

-- ---- where no key has such a cell

-- there is no way
lacks-way : (b : Board) (m : MapValue) (o : Course) (c : Target) (y : Way) → LackAll b m o c → HasAccent o.accent y
    → IsWayBy (allows_but b o.class o.spared) m (state_of o.from) c y → ⊥
lacks-way b m o c y lack acc is =
    let a : Allows = allows_but b o.class o.spared in
    let end : State = state_at_end (alone_by a m) (state_of o.from) y in
    let ((lt, idle, look, meta), may) = is.tap in
    lack y.key lt (
      taken-allowed b o.class o.spared (selection_of end) y.key (look_in (alone_by a m) end y.key) may,
      is.last,
    ) (selection_of end) (way-made a m (state_of o.from) c o.accent y acc is)

pub looked-nothing : (b : Board) (m : MapValue) (o : Course) (c : Target) (routes : Routes) (r : Looked)
    → LackAll b m o c → r.found ≡ None → r.has_met_all ≡ true
    → IsLooked (allows_but b o.class o.spared) m (state_of o.from) c (is_none o.accent) (HasAccent o.accent) routes r
looked-nothing b m o c routes r lack none all = record {
  found =
      subst (λ z. IfSome z (IsFound (allows_but b o.class o.spared) m (state_of o.from) c (is_none o.accent) routes))
      (sym none) tt;
  all = λ t y acc is. absurd (lacks-way b m o c y lack acc is);
  many = λ t. absurd (true≢false (sym all ∙ t));
}
