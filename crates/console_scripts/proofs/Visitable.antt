-- What can be visited, and what an explorer tells of the states that moves lead to.
use Rattle.std.proofs.Common.{rules}
use Rattle.console_scripts.proofs.Common.{◌≡◌, ◌⊎◌, ◌<◌, ◌≤◌, ℕ, false, List, [], ◌∷◌, ◌++◌, reverse, length, slice_get}
use Rattle.console_scripts.proofs.Common.{Option, Some, None, suc, zero, refl, ap, subst, sym, ◌∙◌, inl, inr, arith}
use Rattle.console_scripts.proofs.Common.{append-nil, cases_Bool, eqb-true, eq-eqb, same_Some}
use Rattle.console_scripts.proofs.Common.{none-some, slice_get_within, MapValue, Move, LeftShift, RightShift}
use Rattle.console_scripts.proofs.Common.{LeftControl, RightControl, LeftAlt, RightAlt, AltShift, Meta, Modifier, Lock}
use Rattle.console_scripts.proofs.Common.{Scroll, Cell, Char, Act, Event, Sight, Held, Explored, Under}
use Rattle.console_scripts.proofs.Common.{alone, State, start, Holds, IsIdle, look_in, with_lock_turned, state_from}
use Rattle.console_scripts.proofs.Common.{state_after, events_along, IsHome, IsAfter, freed, IsMove, Turn, ComesHome}
use Rattle.console_scripts.proofs.Common.{SeesBy, selection_of, keys_of, map_of_explored, origin_in, IsExplored}
use Rattle.console_scripts.proofs.Common.{IsWhole, HasRoute, LeadsHome, state_of, Entry, Entries, IsTrail}
use Rattle.console_scripts.proofs.Common.{AreStatesOf, CanReach, IsAim, IsAt, IsWayHome, KeyAt, Leads, LeadsBy}
use Rattle.console_scripts.proofs.Common.{LeadsOn, LeadsToSee, Sees, ShowsNot, HasKeys, HasNoLoads, IsPathFrom, Press}
use Rattle.console_scripts.proofs.Common.{Reset, ReachesMoreThanFrom, state_limit, IsPendingFor}
use Rattle.console_scripts.proofs.Common.{resting_after, same_states}
use Rattle.console_scripts.proofs.Common.{resolved-start}
use Rattle.console_scripts.proofs.Common.{path-split, reached-one}
use Rattle.console_scripts.proofs.Common.{key_count}
use Rattle.console_core.proofs.Shared.{locked-start}
use Rattle.console_scripts.specs.declared.explorer.Aim.{Aim}
use Rattle.console_scripts.specs.Inner.Showing.{Shows}
use Rattle.console_states.specs.Looks.{HoldsAt, IsLook, IsNowhere}
use Rattle.console_states.proofs.Shared.{is-nowhere, path-off, scroll_or_other}
use Rattle.console_scripts.specs.Visiting.{AreTaken, CannotSee, EndsSeeing, IsNearHome, IsPair, IsVisit}
use Rattle.console_scripts.specs.Visiting.{SeenCanBeVisited}
use Rattle.console_scripts.proofs.Aiming.{after-reached, after-rest, met-whole, met-reached, route-reached}
use Rattle.console_scripts.proofs.Approaching.{at-reset, press-rests, press-sees, reset-pends}
use Rattle.console_scripts.proofs.Leading.{met-first, pends}
use Rattle.std.proofs.lemmas.Option.{get_or_from_slice_get, slice_get-get_or, slice_get-map}
use Rattle.std.specs.Option.{option_map}
use Rattle.console_scripts.proofs.Exploring.{has-home}
use Rattle.keymap_core.specs.declared.action.Action.TheVariants as act
use Rattle.console_states.specs.declared.selection.Sight.TheVariants as sight

-- ---- where no turn of a lock is one-way

-- a key holds a modifier, or none
holder-or : (o : Option ℕ) (k : ℕ) → (o ≡ Some k) ⊎ (o ≡ Some k → ⊥)
holder-or None k = inr (λ e. cc)
holder-or (Some j) k = search (rules, cases_Bool, eqb-true, eq-eqb, same_Some)

all-idle : (s : State) (k : ℕ) → (Holds s k LeftShift → ⊥) → (Holds s k RightShift → ⊥) → (Holds s k LeftControl → ⊥)
    → (Holds s k RightControl → ⊥) → (Holds s k LeftAlt → ⊥) → (Holds s k RightAlt → ⊥) → (Holds s k AltShift → ⊥)
    → (Holds s k Meta → ⊥) → IsIdle s k
all-idle s k a b c d e f g h LeftShift = a
all-idle s k a b c d e f g h RightShift = b
all-idle s k a b c d e f g h LeftControl = c
all-idle s k a b c d e f g h RightControl = d
all-idle s k a b c d e f g h LeftAlt = e
all-idle s k a b c d e f g h RightAlt = f
all-idle s k a b c d e f g h AltShift = g
all-idle s k a b c d e f g h Meta = h

idle-or : (s : State) (k : ℕ) → IsIdle s k ⊎ ((i : Modifier) × Holds s k i)
idle-or s k = elim (holder-or (s.holder LeftShift) k) [
  | inl x ↦ inr (LeftShift, x)
  | inr a ↦ elim (holder-or (s.holder RightShift) k) [
    | inl x ↦ inr (RightShift, x)
    | inr b ↦ elim (holder-or (s.holder LeftControl) k) [
      | inl x ↦ inr (LeftControl, x)
      | inr c ↦ elim (holder-or (s.holder RightControl) k) [
        | inl x ↦ inr (RightControl, x)
        | inr d ↦ elim (holder-or (s.holder LeftAlt) k) [
          | inl x ↦ inr (LeftAlt, x)
          | inr e ↦ elim (holder-or (s.holder RightAlt) k) [
            | inl x ↦ inr (RightAlt, x)
            | inr f ↦ elim (holder-or (s.holder AltShift) k) [
              | inl x ↦ inr (AltShift, x)
              | inr g ↦ elim (holder-or (s.holder Meta) k) [
                | inl x ↦ inr (Meta, x)
                | inr h ↦ inl (all-idle s k a b c d e f g h)
              ]
            ]
          ]
        ]
      ]
    ]
  ]
]

-- a press leads somewhere
after-some : (m : MapValue) (s : State) (k : ℕ) → k < key_count → (t : State) × IsAfter (alone m) s k t
after-some m s k lt = by (look_in (alone m) s k) refl
  where
    none : ((l : Lock) → IsMove (alone m) s (Turn k l) → ⊥) → (t : State) × IsAfter (alone m) s k t
    none turns = (freed s, inr (turns, refl))

    by : (c : Cell) → look_in (alone m) s k ≡ c → (t : State) × IsAfter (alone m) s k t
    by (Act (act.Lock l)) e = elim (idle-or s k) [
      | inl idle ↦ elim (scroll_or_other l) [
        | inl scroll ↦ none (λ j ((below, still, (seen, may)), other). other (let f : j ≡ Scroll = cc in f))
        | inr other ↦ (freed (with_lock_turned s l), inl (l, ((lt, idle, (e, refl)), other), refl))
      ]
      | inr (i, holds) ↦ none (λ j ((below, idle, made), other). idle i holds)
    ]
    by (Char c) e = none (λ l ((below, idle, (seen, may)), other). cc (e, seen))
    by (Act b) e = none (λ l ((below, idle, (seen, may)), other). cc (e, seen))

pub seen_can_be_visited : SeenCanBeVisited
seen_can_be_visited m x = (
  (λ (path, is, can, (k, lt, sees, back)). (path, is, can, (k, lt, sees))),
  (λ steady (path, is, can, (k, lt, sees)).
      let u : Under = alone m in
      let (t, was) = after-some m (state_after u path) k lt in
      let (way, made, there) = after-reached m (state_after u path) k t lt (path, is, refl) was in
      let (later, all, home) = steady way made in
      let parts = path-split u start later way all in
      let back : ComesHome u t =
      subst (λ z. ComesHome u z) there (later, parts.1, subst IsHome parts.2 home) in
      (path, is, can, (k, lt, sees, (t, was, back)))),
)

-- ---- what is told

-- what stands at a place among the states
pub key-at : (es : Entries) (n : ℕ) (x : Held) → slice_get (keys_of es) n ≡ Some x
    → (y : Entry) × (slice_get es n ≡ Some y) × (y.0 ≡ x)
key-at es n x at = by (slice_get es n) refl (sym (slice_get-map (λ e. e.0) es n) ∙ at)
  where
    by : (o : Option Entry) → slice_get es n ≡ o → option_map (λ e. e.0) o ≡ Some x
        → (y : Entry) × (slice_get es n ≡ Some y) × (y.0 ≡ x)
    by None e f = absurd (none-some x f)
    by (Some y) e f = (y, e, same_Some y.0 x f)

pub at-key : (es : Entries) (n : ℕ) (y : Entry) → slice_get es n ≡ Some y → slice_get (keys_of es) n ≡ Some y.0
at-key es n y at = slice_get-map (λ e. e.0) es n ∙ ap (λ o. option_map (λ e. e.0) o) at

-- no state stands behind the last place
pub key-within : (es : Entries) (n : ℕ) (x : Held) → slice_get (keys_of es) n ≡ Some x → n < length es
key-within es n x at = let (y, there, e) = key-at es n x at in slice_get_within es n y there

pub no-key : (es : Entries) (n : ℕ) → length es ≤ n → slice_get (keys_of es) n ≡ None
no-key es n le = search (rules, key-within)

-- the states of a whole exploration are all
pub states-of : (e : Explored) → IsWhole e → AreStatesOf (map_of_explored e) (keys_of e.met.entries)
states-of e whole = record {
  reached = λ x (n, lt, at).
      let (y, there, is) = key-at e.met.entries n x (slice_get-get_or (keys_of e.met.entries) n x lt ∙ ap Some at) in
      subst (λ z. CanReach (map_of_explored e) (state_of z)) is (met-reached e whole n y there);
  all = λ path is.
      let (j, y, at, same) = met-whole e whole (state_after (alone (map_of_explored e)) path) (path, is, refl) in
      let is = at-key e.met.entries j y at in
      let keys = keys_of e.met.entries in
      (y.0, (j, slice_get_within keys j y.0 is, get_or_from_slice_get keys j y.0 y.0 is), same);
}

-- the events to a place
pub leads-by : (e : Explored) → IsExplored e → (place : ℕ) (y : Entry) → slice_get e.met.entries place ≡ Some y
    → (old now : List Event) → old ≡ []
    → ((path : List Move) → IsTrail e.met.entries place path → now ≡ events_along path ++ reverse old)
    → LeadsBy (map_of_explored e) (origin_in e) (state_of y.0) now
leads-by e x place y at old now none is = search (rules, reached-one, append-nil)

-- the events of a route home
pub way-home : (m : MapValue) (s : State) (moves : List Move)
    → LeadsHome (alone m) s moves → (old now : List Event) → old ≡ []
    → now ≡ events_along (reverse moves) ++ reverse old → IsWayHome m s now
way-home m s moves home old now none is =
    inl (
      state_from (alone m) s (reverse moves),
      home.1,
      (
        reverse moves,
        home.0,
        refl,
        is ∙ ap (λ z. events_along (reverse moves) ++ reverse z) none ∙ append-nil (events_along (reverse moves)),
      ),
    )

-- no events lead home where no route begins
pub no-way : (e : Explored) → IsWhole e → (s : State)
    → (HasRoute e.routes.entries s → ⊥) → (now : List Event) → now ≡ [] → IsWayHome (map_of_explored e) s now
no-way e whole s none now is = inr ((λ can home. none (route-reached e whole s can home)), is)

-- no press sees the sight
pub unseen-from : (e : Explored) → IsExplored e → (h : List Event) → origin_in e ≡ resting_after (map_of_explored e) h
    → (x : Sight) → IsNowhere (Sees e x) e.met.entries
    → CannotSee (map_of_explored e) h x
unseen-from e x h rests y none (path, is, (k, lt, sees)) =
    elim (cases_Bool e.is_complete) [
      | inl complete ↦
          let m : MapValue = map_of_explored e in
          absurd (is-nowhere (alone m) e.met.entries (x.whole complete).0
          (λ s. (n : ℕ) → (n < key_count) × SeesBy m (selection_of s) n y → ⊥) none (origin_in e)
          (0, omega arith, refl) path (subst (λ s. IsPathFrom (alone m) s path) (sym rests) is) k
          (lt, subst (λ s. SeesBy m (selection_of (state_from (alone m) s path)) k y) (sym rests) sees))
      | inr more ↦
          subst (λ s. (p : ℕ) × ReachesMoreThanFrom (alone (map_of_explored e)) s state_limit p) rests (x.more more)
    ]

-- what is to be seen, whether moves lead back or not
pub shows-none : (e : Explored) (x : Sight) → IsLook (ShowsNot e x false) (Shows e x false) e.met.entries None
    → IsNowhere (Sees e x) e.met.entries
shows-none e x look j y at lt = search rules

pub shows-some : (e : Explored) (x : Sight) (at : KeyAt)
    → IsLook (ShowsNot e x false) (Shows e x false) e.met.entries (Some at) → HoldsAt (Sees e x) e.met.entries at
shows-some e x at look = let (y, here, (sees, back)) = look.is.0 in (y, here, sees)

-- moves lead home from where a route begins
pub home-at : (e : Explored) → IsWhole e → (s : State) → HasRoute e.routes.entries s
    → ComesHome (alone (map_of_explored e)) s
home-at e whole s has = has-home (alone (map_of_explored e)) e.routes.entries s whole.0.home has

-- something is told of each place
pub place-some : (es : Entries) (n : ℕ) → n < length es → slice_get (keys_of es) n ≡ None → ⊥
place-some [] n lt e = omega (arith, lt)
place-some (x ∷ es) zero lt e = cc
place-some (x ∷ es) (suc n) lt e = place-some es n (omega (arith, lt)) e

-- ---- visits

-- moves lead to the start, and from there home
pub start-near : (m : MapValue) → IsNearHome m []
start-near m = search (rules, same_states, resolved-start, locked-start)

-- A reset, the way home, on to the place, and the press there.
pub visits : (e : Explored) → IsWhole e → (a : Aim) → IsAim e a → (s : State) (old home there now : List Event)
    → old ≡ Reset ∷ [] → LeadsOn (map_of_explored e) s start old home
    → ((y : Entry) → slice_get e.met.entries a.at.place ≡ Some y
    → LeadsToSee (map_of_explored e) a.sight start (state_of y.0) home there)
    → now ≡ Press a.at.key ∷ there → (h : List Event) → s ≡ resting_after (map_of_explored e) h → HasKeys h
    → HasNoLoads h
    → IsVisit (map_of_explored e) h a.sight now × IsNearHome (map_of_explored e) (now ++ h)
visits e whole a ((y, here, ((lt, sees), leads)), dead) s old home there now is back on last h rests keys none =
    let m : MapValue = map_of_explored e in
    let k = a.at.key in
    let (t, by, has) = leads refl in
    let after = subst (λ u. IsAfter u (state_of y.0) k t) whole.0.under by in
    let begun : IsAt m s h old =
    subst (λ z. IsAt m s h z) (sym is) (subst (λ z. IsAt m z h (Reset ∷ [])) (sym rests) (at-reset m h keys none)) in
    let b = back h begun in
    let c = on y here h b.0 in
    let r = reached-one whole.0.searched a.at.place y here in
    let off = subst (λ z. z.is_locked Scroll ≡ false) r.3
    (path-off m (origin_in e) r.0 r.2 (ap (λ z. z.is_locked Scroll) whole.1)) in
    let rest = after-rest (alone m) (state_of y.0) k t (met-first e whole.0 a.at.place y here) off after in
    let there_rests = press-rests m (state_of y.0) h there k t lt c.0 after rest in
    rw last (
      (
        (refl, tt, c.0.taken),
        (λ can.
            press-sees m (state_of y.0) h there k a.sight c.0 sees
            (c.1 (b.1 ∙ ap (λ z. pends m (z ++ h)) is ∙ reset-pends m h) can)),
      ),
      subst (λ z. CanReach m z × ComesHome (alone m) z) (sym there_rests) (
        after-reached m (state_of y.0) k t lt (met-reached e whole a.at.place y here) after,
        home-at e whole t has,
      ),
    )

-- a cell or a lock setting needs no accent
waits : (m : MapValue) (h : List Event) (x : Sight) → (IsPair x → ⊥) → IsPendingFor m h x
waits m h (sight.Cell slot column) key = tt
waits m h (sight.Locks slot caps num) key = tt
waits m h (sight.Pair accent c) key = absurd (key tt)

-- A reset, the way to the place, and the press there.
pub goes-onward : (e : Explored) → (x : Sight) (at : KeyAt) → HoldsAt (Sees e x) e.met.entries at
    → (old there now : List Event) → old ≡ Reset ∷ []
    → ((y : Entry) → slice_get e.met.entries at.place ≡ Some y
    → Leads (map_of_explored e) (origin_in e) (state_of y.0) old there)
    → now ≡ Press at.key ∷ there → (h : List Event) → origin_in e ≡ resting_after (map_of_explored e) h → HasKeys h
    → HasNoLoads h → (IsPair x → ⊥)
    → AreTaken h now × EndsSeeing (map_of_explored e) h now x
goes-onward e x at (y, here, (lt, sees)) old there now is on last h rests keys none key =
    let m : MapValue = map_of_explored e in
    let begun : IsAt m (origin_in e) h old =
    subst (λ z. IsAt m (origin_in e) h z) (sym is)
    (subst (λ z. IsAt m z h (Reset ∷ [])) (sym rests) (at-reset m h keys none)) in
    let c = on y here h begun in
    rw last (
      (refl, tt, c.taken),
      press-sees m (state_of y.0) h there at.key x c sees (waits m (there ++ h) x key),
    )
