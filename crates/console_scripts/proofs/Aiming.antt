-- Where nothing is aimed at no visit can be made.
use Rattle.std.proofs.Common.{rules}
use Rattle.console_scripts.proofs.Common.{◌≡◌, ◌<◌, ℕ, Bool, true, false, List, [], ◌∷◌, ◌++◌, slice_get, Option}
use Rattle.console_scripts.proofs.Common.{MatchOption, Some, None, refl, ap, subst, sym, ◌∙◌, inl, inr, arith}
use Rattle.console_scripts.proofs.Common.{false≢true, MapValue, Caps, Num, Scroll, Alt, Char, Move, Turn}
use Rattle.console_scripts.proofs.Common.{LetGo, Sight, Explored, Under, alone, State, start, IsFree, IsIdle, look_in}
use Rattle.console_scripts.proofs.Common.{IsPath, state_after, IsPathFrom, state_from, with_holder}
use Rattle.console_scripts.proofs.Common.{with_lock_turned, IsHome, SeesBy, look_selected, selection_of, slot_of}
use Rattle.console_scripts.proofs.Common.{ComesHome, map_of_explored, HasTap, HasRoute, freed}
use Rattle.console_scripts.proofs.Common.{state_of, Entry, IsWhole, IsAfter, IsDeadFor, IsAim, ShowsNot}
use Rattle.console_scripts.proofs.Common.{length, KeyAt, CanVisit, slice_get_within}
use Rattle.console_scripts.proofs.Common.{all-met, path-split, reached-one}
use Rattle.console_scripts.proofs.Common.{same_states, one_map}
use Rattle.console_scripts.specs.declared.explorer.Aim.{Aim}
use Rattle.console_scripts.specs.Inner.Showing.{Shows}
use Rattle.console_scripts.specs.Inner.Exploring.{IsOrigin}
use Rattle.console_states.specs.Looks.{HoldsAt, HoldsBelow, IsLook}
use Rattle.console_states.specs.Searching.{HasMetAll}
use Rattle.console_states.proofs.Shared.{Reached, emptied, emptied-kept, emptied-none, reached-more}
use Rattle.console_scripts.proofs.Exploring.{comes-route, path-append}
use Rattle.console_scripts.specs.declared.explored.Symbol.TheVariants as symbol
use Rattle.console_states.specs.declared.selection.Sight.TheVariants as sight

-- ---- where nothing is to be aimed at

-- all let go, one after another
freed-emptied : (s : State) → freed s ≡ emptied s
freed-emptied s = same_states _ _ (λ i. sym (emptied-none s i)) (λ l. refl) refl refl

freed-reached : (m : MapValue) (s : State) → Reached (alone m) s → Reached (alone m) (freed s)
freed-reached m s there =
    rw (freed-emptied s) (emptied-kept (λ t. Reached (alone m) t)
    (λ t k i here holds. reached-more (alone m) t (LetGo k i) here holds) s there)

-- the state after a press is reached
pub after-reached : (m : MapValue) (s : State) (k : ℕ) (t : State) → k < 128 → Reached (alone m) s
    → IsAfter (alone m) s k t → Reached (alone m) t
after-reached m s k t lt there (inl (l, move, is)) =
    rw is (freed-reached m (with_lock_turned s l) (reached-more (alone m) s (Turn k l) there move))
after-reached m s k t lt there (inr (none, is)) =
    subst (λ z. Reached (alone m) z) (sym is) (freed-reached m s there)

-- nothing is held then, the first map is in force, and the scroll lock is off
pub after-rest : (u : Under) (s : State) (k : ℕ) (t : State) → IsOrigin s → s.is_locked Scroll ≡ false
    → IsAfter u s k t → IsFree t × IsOrigin t × (t.is_locked Scroll ≡ false)
after-rest u s k t first off (inl (Caps, move, is)) = rw is ((λ i. refl), first, off)
after-rest u s k t first off (inl (Num, move, is)) = rw is ((λ i. refl), first, off)
after-rest u s k t first off (inl (Scroll, move, is)) = absurd (move.1 refl)
after-rest u s k t first off (inl (Alt, move, is)) = rw is ((λ i. refl), first, off)
after-rest u s k t first off (inr (none, is)) = rw is ((λ i. refl), first, off)

-- a complete exploration from the start met all states
pub whole-met : (e : Explored) → IsWhole e → HasMetAll e.maps e.met.entries
whole-met e (x, begins, complete) = search rules

-- a complete exploration met each state that is reached
pub met-whole : (e : Explored) → IsWhole e → (s : State) → Reached (alone (map_of_explored e)) s
    → (j : ℕ) × (y : Entry) × (slice_get e.met.entries j ≡ Some y) × (state_of y.0 ≡ s)
met-whole e (x, begins, complete) s (path, is, leads) =
    let u : Under = alone (map_of_explored e) in
    let (searched, settled) = x.whole complete in
    let (j, y, at, same) =
    all-met u e.met.entries searched path (subst (λ o. IsPathFrom u o path) (sym begins) is) in
    (j, y, at, same ∙ ap (λ o. state_from u o path) begins ∙ leads)

-- what was met is reached
pub met-reached : (e : Explored) → IsWhole e → (j : ℕ) (y : Entry) → slice_get e.met.entries j ≡ Some y
    → Reached (alone (map_of_explored e)) (state_of y.0)
met-reached e whole j y at = search (rules, reached-one)

-- a route begins at a state that was met, if moves lead home from it
pub route-met : (e : Explored) → IsWhole e → (j : ℕ) (y : Entry) → slice_get e.met.entries j ≡ Some y → (s : State)
    → state_of y.0 ≡ s → ComesHome (alone (map_of_explored e)) s → HasRoute e.routes.entries (state_of y.0)
route-met e (x, begins, complete) j y at s same home = search (rules, comes-route)

-- a route begins at a state that is reached, if moves lead home from it
pub route-reached : (e : Explored) → IsWhole e → (s : State) → Reached (alone (map_of_explored e)) s
    → ComesHome (alone (map_of_explored e)) s → HasRoute e.routes.entries s
route-reached e whole s there home =
    let (j, y, at, same) = met-whole e whole s there in
    subst (λ t. HasRoute e.routes.entries t) same (route-met e whole j y at s same home)

-- a slot is that of one key
slot-key : (upper : Bool) (k n : ℕ) → slot_of k upper ≡ slot_of n upper → k ≡ n
slot-key true k n e = omega (arith, e)
slot-key false k n e = e

-- a press leads to one state
one-after : (m : MapValue) (s : State) (k : ℕ) (after : State) → IsAfter (alone m) s k after → (before : State)
    → IsAfter (alone m) s k before → after ≡ before
one-after m s k after (inl (l, ((lt, idle, (seen, may)), other), is)) before
    (inl (j, ((below, still, (looked, can)), turns), was)) =
    let e : l ≡ j = cc in is ∙ ap (λ i. freed (with_lock_turned s i)) e ∙ sym was
one-after m s k after (inl (l, move, is)) before (inr (none, was)) = absurd (none l move)
one-after m s k after (inr (none, is)) before (inl (j, move, was)) = absurd (none j move)
one-after m s k after (inr (none, is)) before (inr (other, was)) = is ∙ sym was

-- a press that looks up a character turns no lock
char-after : (m : MapValue) (s : State) (k c : ℕ) (after : State) → look_selected m (selection_of s) k ≡ Char c
    → IsAfter (alone m) s k after → after ≡ freed s
char-after m s k c after e (inl (l, ((lt, idle, (seen, may)), other), is)) = search (rules, one_map)
char-after m s k c after e (inr (none, is)) = is

-- Presses that see one sight lead alike: of a cell or a lock setting only one key can see it, and a key that sees a
-- pair looks up a character.
sees-alike : (m : MapValue) (x : Sight) (s : State) (k n : ℕ) (after : State) → SeesBy m (selection_of s) k x
    → SeesBy m (selection_of s) n x → IsAfter (alone m) s n after → (before : State) → IsAfter (alone m) s k before
    → after ≡ before
sees-alike m x s k n after sees seen is before was = by x sees seen
  where
    of_key : k ≡ n → after ≡ before
    of_key same = one-after m s k after (subst (λ j. IsAfter (alone m) s j after) (sym same) is) before was

    by : (y : Sight) → SeesBy m (selection_of s) k y → SeesBy m (selection_of s) n y → after ≡ before
    by (sight.Cell slot column) a b = of_key (slot-key (selection_of s).upper k n (a.0 ∙ sym b.0))
    by (sight.Locks slot caps num) a b = of_key (slot-key (selection_of s).upper k n (a.0 ∙ sym b.0))
    by (sight.Pair accent c) a b = char-after m s n c after b is ∙ sym (char-after m s k c before a was)

-- moves let go of all holders
abbrev LetsAllGo : Under → State → State → Type 0
LetsAllGo u s t = (path : List Move) × IsPathFrom u s path × (state_from u s path ≡ t)

pub lets-go : (m : MapValue) (s : State) → LetsAllGo (alone m) s (freed s)
lets-go m s =
    rw (freed-emptied s) (emptied-kept (λ t. LetsAllGo (alone m) s t)
    (λ t k i (path, is, leads) holds. (
      LetGo k i ∷ path,
      (subst (λ w. w.holder i ≡ Some k) (sym leads) holds, is),
      ap (λ w. with_holder w i None) leads,
    )) s ([], tt, refl))

-- moves lead home from where a path leads from that leads to where moves lead home from
comes-through : (u : Under) (s : State) (path : List Move) → IsPathFrom u s path → ComesHome u (state_from u s path)
    → ComesHome u s
comes-through u s path made (later, is, home) =
    let all = path-append u s path later made is in
    (later ++ path, all.0, subst IsHome (sym all.1) home)

-- a sight that no press shows can't be visited
pub shows-not : (e : Explored) → IsWhole e → (x : Sight) → HoldsBelow (ShowsNot e x true) e.met.entries
    (length e.met.entries)
    → CanVisit (map_of_explored e) x → ⊥
shows-not e whole x none (path, is, can, (k, lt, sees, (before, was, home))) =
    let m : MapValue = map_of_explored e in
    let u : Under = alone m in
    let s : State = state_after u path in
    let (j, y, at, same) = met-whole e whole s (path, is, refl) in
    elim (none j y at (slice_get_within e.met.entries j y at)) [
      | inl unseen ↦ unseen k (lt, subst (λ t. SeesBy m (selection_of t) k x) (sym same) sees)
      | inr (back, n, t, (key, seen), leads, astray) ↦
          let after = subst (λ v. IsAfter v (state_of y.0) n t) whole.0.under leads in
          let there = after-reached m (state_of y.0) n t key (met-reached e whole j y at) after in
          let alike : t ≡ before =
          sees-alike m x s k n t sees (subst (λ z. SeesBy m (selection_of z) n x) same seen)
          (subst (λ z. IsAfter u z n t) same after) before was in
          astray (route-reached e whole t there (subst (λ z. ComesHome u z) (sym alike) home))
    ]

-- a pair whose dead key can't be tapped can't be visited
pub dead-not : (e : Explored) → IsWhole e → (accent c : ℕ) → (HasTap e (symbol.DeadKey accent) → ⊥)
    → CanVisit (map_of_explored e) (sight.Pair accent c) → ⊥
dead-not e whole accent c none
    (path, is, (later, before, at, (can, (k, lt, (idle, (seen, may))))), (n, key, sees, (after, was, home))) =
    let m : MapValue = map_of_explored e in
    let u : Under = alone m in
    let s : State = state_after u before in
    let parts = path-split u start later before (subst (λ p. IsPath u p) at is) in
    let (j, y, there, same) = met-whole e whole s (before, parts.0, refl) in
    let end : State = state_after u path in
    let go = lets-go m end in
    let let_go : ComesHome u (state_from u end go.0) =
    subst (λ t. ComesHome u t) (char-after m end n c after sees was ∙ sym go.2) home in
    let leads : end ≡ state_from u s later = ap (λ p. state_after u p) at ∙ parts.2 in
    let back : ComesHome u s =
    comes-through u s later parts.1 (subst (λ t. ComesHome u t) leads (comes-through u end go.0 go.1 let_go)) in
    none (
      j,
      k,
      (
        y,
        there,
        route-met e whole j y there s same back,
        (
          lt,
          subst (λ z. IsIdle z k) (sym same) idle,
          ap (λ z. look_in u z k) same ∙ seen,
          (λ f. absurd (false≢true f)),
        ),
      ),
    )

-- what is found is aimed at
pub found-aim : (e : Explored) → IsWhole e → (x : Sight) (d : Option KeyAt) → IsDeadFor e x d → (o : Option Aim)
    → MatchOption o (IsLook (ShowsNot e x true) (Shows e x true) e.met.entries None)
    (λ a. HoldsAt (Shows e x true) e.met.entries a.at × (a.sight ≡ x) × (a.dead ≡ d))
    → MatchOption o (CanVisit (map_of_explored e) x → ⊥)
    (λ a. IsAim e a × (a.sight ≡ x))
found-aim e whole x d dead None none = shows-not e whole x none.is
found-aim e whole x d dead (Some a) (press, is, behind) = (
  (
    subst (λ z. HoldsAt (Shows e z true) e.met.entries a.at) (sym is) press,
    subst (λ z. IsDeadFor e z a.dead) (sym is) (subst (λ o. IsDeadFor e x o) (sym behind) dead),
  ),
  is,
)

no-dead : (e : Explored) (x : Sight) → ((accent c : ℕ) → x ≡ sight.Pair accent c → ⊥) → IsDeadFor e x None
no-dead e (sight.Pair accent c) other = absurd (other accent c refl)
no-dead e (sight.Cell slot column) other = tt
no-dead e (sight.Locks slot caps num) other = tt

pub aims-at : (e : Explored) → IsWhole e → (x : Sight) → ((accent c : ℕ) → x ≡ sight.Pair accent c → ⊥)
    → (o : Option Aim)
    → MatchOption o (IsLook (ShowsNot e x true) (Shows e x true) e.met.entries None)
    (λ a. HoldsAt (Shows e x true) e.met.entries a.at × (a.sight ≡ x) × (a.dead ≡ None))
    → MatchOption o (CanVisit (map_of_explored e) x → ⊥)
    (λ a. IsAim e a × (a.sight ≡ x))
aims-at e whole x other o found = found-aim e whole x None (no-dead e x other) o found
