-- The events along a path lead a console to the state of the path.
use Rattle.console_states.proofs.Common.{◌≡◌, ℕ, ◌<◌, Bool, true, false, ◌&&◌, ◌||◌, not, List, [], ◌∷◌, ◌++◌, Some}
use Rattle.console_states.proofs.Common.{None, refl, ap, subst, sym, ◌∙◌, inl, inr, if◌then◌else◌, append_assoc, ◌==◌}
use Rattle.console_states.proofs.Common.{eqb-true, eq-eqb, cases_Bool, true≢false, false≢true, All-nil, All-cons}
use Rattle.console_states.proofs.Common.{none-some, same_Some, same_modifier, same_lock, MapValue, same_action-refl}
use Rattle.console_states.proofs.Common.{none_unless, ResolvedEvent, remembered, taken_over, is_this_action}
use Rattle.console_states.proofs.Common.{resolve_press, PressedAction, ReleasedKey, WasLoaded, resolved}
use Rattle.console_states.proofs.Common.{is_second_in_force, pressed, HasKey, HasKeys, HasNoLoads, between}
use Rattle.console_states.proofs.Common.{is_locked_after, Under, State, start, map_of, look_in, Holds, IsIdle}
use Rattle.console_states.proofs.Common.{with_holder, with_lock_turned, exchanged, IsFree, IsMove, moved, state_after}
use Rattle.console_states.proofs.Common.{IsPath, events_of_move, events_along, state_from, IsPathFrom, alone, Follows}
use Rattle.console_states.proofs.Common.{minding, Holding, key_count, with_accent, Tap, same_action, holding_action}
use Rattle.console_states.proofs.Common.{unless_nop, HoldsSome, Exact, Stands, Action, Lock, Modifier, Cell, Act, Event}
use Rattle.console_states.proofs.Common.{Press}
use Rattle.console_states.proofs.Common.{Release, Reset, Load, Move, Hold, Turn, LetGo, Exchange, rules, held-action}
use Rattle.console_states.proofs.Common.{held-release, pressed-press, remembered-action, resolved-more, resolved-start}
use Rattle.keymap_core.proofs.Shared.{option_or-none}
use Rattle.console_states.proofs.Common.{◌≢◌, Scroll}
use Rattle.console_core.proofs.Shared.{held-load, held-reset, held-start, locked-reset, no_loads-first, pressed-load}
use Rattle.console_core.proofs.Shared.{pressed-release, pressed-reset, pressed-start, remembered-load}
use Rattle.console_core.proofs.Shared.{remembered-release, remembered-reset, remembered-start}
use Rattle.console_states.proofs.Following.{follows-look, follows-hold, follows-turn, follows-let_go, follows-release}
use Rattle.console_states.proofs.Following.{takes, same_mods, follows-nothing, not_holding}
use Rattle.console_states.proofs.Staying.{follows-start, follows-load}
use Rattle.keymap_core.specs.declared.action.Action.TheVariants as act
use Rattle.keymap_core.specs.declared.action.Holding.TheVariants as holding

-- a key that is idle remembers nothing
pub idle-none : (r : List ResolvedEvent) (s : State) (k : ℕ) → Exact r s → IsIdle s k → remembered k r ≡ None
idle-none r s k x idle = none_unless (remembered k r) (λ a e. let p : HoldsSome s k = x.only k a e in idle p.0 p.1)

-- what another key remembers after a press
pub other-remembered : (r : List ResolvedEvent) (k j : ℕ) (b : Action) → k == j ≡ false
    → remembered j (PressedAction k b ∷ r) ≡ remembered j r
other-remembered r k j b e = rw (remembered-action j k b r, e) (option_or-none (remembered j r))

-- the holders after a move
pub hold-self : (s : State) (i : Modifier) (k : ℕ) → Holds (with_holder s i (Some k)) k i
hold-self s i k = ap (λ t. if t then Some k else s.holder i) (same_action-refl (act.Mod i))

-- a key that takes a modifier leaves each other holder as it was
hold-other : (s : State) (i : Modifier) (k n : ℕ) → s.holder i ≡ None → HoldsSome s n
    → HoldsSome (with_holder s i (Some k)) n
hold-other s i k n free p = search (rules, cases_Bool, none-some, same_mods)

-- a key that lets go leaves each other holder as it was
let_go-other : (s : State) (i : Modifier) (k n : ℕ) → Holds s k i → k == n ≡ false → HoldsSome s n
    → HoldsSome (with_holder s i None) n
let_go-other s i k n holds ne p = search (rules, cases_Bool, same_Some, same_mods, eq-eqb)

-- the moves
exact-hold : (r : List ResolvedEvent) (s : State) (k : ℕ) (i : Modifier) → Exact r s → IsIdle s k → s.holder i ≡ None
    → Exact (PressedAction k (act.Mod i) ∷ r) (with_holder s i (Some k))
exact-hold r s k i x idle free =
    let e : taken_over (remembered k r) (act.Mod i) ≡ act.Mod i =
    ap (λ o. taken_over o (act.Mod i)) (idle-none r s k x idle) in
    record {
      follows = follows-hold r s k (act.Mod i) i x.follows e;
      only = λ n a q. elim (cases_Bool (k == n)) [
        | inl t ↦ (i, subst (λ y. Holds (with_holder s i (Some k)) y i) (eqb-true k n t) (hold-self s i k))
        | inr t ↦ hold-other s i k n free (x.only n a (sym (other-remembered r k n (act.Mod i) t) ∙ q))
      ];
      up = λ l. rw (held-action (holding.Lock l) k (act.Mod i) r, e) (x.up l);
    }

-- a mark that a press sets and the release clears is clear
pub up_again : (t x : Bool) → x ≡ false → ((t || x) && not t) ≡ false
up_again true x e = refl
up_again false x e = rw e refl

-- after a tap of a key the others remember what they did
pub tap-only : (r now : List ResolvedEvent) (s : State) (k : ℕ) → Exact r s
    → ((n : ℕ) → k == n ≡ false → remembered n now ≡ remembered n r) → (n : ℕ) (a : Action)
    → remembered n (ReleasedKey k ∷ now) ≡ Some a → HoldsSome s n
tap-only r now s k x same n a q = search (rules, cases_Bool, none-some, remembered-release)

-- a press and release of an idle key that turns a lock
pub exact-turn : (r : List ResolvedEvent) (s : State) (k : ℕ) (l : Lock) → Exact r s → IsIdle s k
    → Exact (ReleasedKey k ∷ (PressedAction k (act.Lock l) ∷ r)) (with_lock_turned s l)
exact-turn r s k l x idle =
    let e : taken_over (remembered k r) (act.Lock l) ≡ act.Lock l =
    ap (λ o. taken_over o (act.Lock l)) (idle-none r s k x idle) in
    let now : remembered k (PressedAction k (act.Lock l) ∷ r) ≡ Some (act.Lock l) =
    takes r k (act.Lock l) (holding.Lock l) e in
    record {
      follows =
          follows-release (PressedAction k (act.Lock l) ∷ r) (with_lock_turned s l) k
          (follows-turn r s k (act.Lock l) l x.follows e (x.up l)) (λ i. ap (λ o. is_this_action o (act.Mod i)) now);
      only = tap-only r (PressedAction k (act.Lock l) ∷ r) s k x (λ n t. other-remembered r k n (act.Lock l) t);
      up = λ j. rw (held-release (holding.Lock j) k (PressedAction k (act.Lock l) ∷ r), now)
          (rw (held-action (holding.Lock j) k (act.Lock l) r, e) (up_again (same_lock l j) _ (x.up j)));
    }

-- a release of a holder
exact-let_go : (r : List ResolvedEvent) (s : State) (k : ℕ) (i : Modifier) → Exact r s → Holds s k i
    → Exact (ReleasedKey k ∷ r) (with_holder s i None)
exact-let_go r s k i x holds = record {
  follows = follows-let_go r s k i x.follows (x.follows.holds i k holds);
  only = λ n a q. elim (cases_Bool (k == n)) [
    | inl t ↦ absurd (none-some a (rw (remembered-release n k r, t) at q))
    | inr t ↦ let_go-other s i k n holds t (x.only n a (rw (remembered-release n k r, t) at q))
  ];
  up = λ l. rw (held-release (holding.Lock l) k r, x.up l) refl;
}

-- a load, where nothing is held
exact-exchange : (m : MapValue) (r : List ResolvedEvent) (s : State) → Exact r s → IsFree s
    → Exact (WasLoaded m ∷ r) (exchanged m s)
exact-exchange m r s x free = search (rules, follows-load, none-some, remembered-load, held-load)

-- a press, by what is looked up
pub pressed-look : (u : Under) (h : List Event) (s : State) (k : ℕ) (x : Cell) → Follows (resolved u.maps h) s
    → s.is_second ≡ is_second_in_force h → look_in u s k ≡ x
    → resolved u.maps (Press k ∷ h) ≡ resolve_press k x ∷ resolved u.maps h
pressed-look u h s k x f second seen = search (rules, resolved-more, follows-look)

-- what is pressed after a press and release of a key was before
pub tapped-pressed : (h : List Event) (k n : ℕ) → pressed n (Release k ∷ Press k ∷ h) ≡ true → pressed n h ≡ true
tapped-pressed h k n p = search (rules, cases_Bool, pressed-release, pressed-press)

-- A tap of a key that looks up an action that nothing holds keeps the state.
-- what is remembered of an action that nothing holds is no modifier
plain-mod : (a : Action) (i : Modifier) → ((h : Holding) → same_action a (holding_action h) ≡ false)
    → is_this_action (unless_nop a) (act.Mod i) ≡ false
plain-mod a i plain = elim (cases_Bool (same_action a act.Nop)) [
  | inl t ↦ rw t refl
  | inr t ↦ rw t (plain (holding.Mod i))
]

pub exact-action : (r : List ResolvedEvent) (s : State) (k : ℕ) (a : Action) → Exact r s → IsIdle s k
    → ((h : Holding) → same_action a (holding_action h) ≡ false)
    → Exact (ReleasedKey k ∷ (PressedAction k a ∷ r)) s
exact-action r s k a x idle plain =
    let now : List ResolvedEvent = PressedAction k a ∷ r in
    let none : remembered k r ≡ None = idle-none r s k x idle in
    let takes : taken_over (remembered k r) a ≡ a = ap (λ o. taken_over o a) none in
    let holds : remembered k now ≡ unless_nop a = rw (remembered-action k k a r, none, eq-eqb k k refl) refl in
    record {
      follows = follows-release now s k
          (follows-nothing r s k a x.follows (λ h. ap (λ b. same_action b (holding_action h)) takes ∙ plain h))
          (λ i. ap (λ o. is_this_action o (act.Mod i)) holds ∙ plain-mod a i plain);
      only = tap-only r now s k x (λ n t. other-remembered r k n a t);
      up = λ l. rw (held-release (holding.Lock l) k now, held-action (holding.Lock l) k a r, takes)
          (rw (plain (holding.Lock l), x.up l) refl);
    }

pub stands-tapped : (u : Under) (h : List Event) (s : State) (k : ℕ) (c : Cell) → k < key_count → Stands u h s
    → look_in u s k ≡ c → Exact (ReleasedKey k ∷ (resolve_press k c ∷ resolved u.maps h)) s
    → Stands u (Release k ∷ Press k ∷ h) s
stands-tapped u h s k c lt st seen exact =
    search (rules, resolved-more, pressed-look, tapped-pressed, All-cons)

-- after a tap of a dead key the console stands as before
pub dead-tapped : (u : Under) (h : List Event) (s : State) (j k : ℕ) → k < key_count → Stands u h s → IsIdle s k
    → look_in u s k ≡ Act (act.DeadKey j) → Stands u (Release k ∷ Press k ∷ h) s
dead-tapped u h s j k lt st idle seen = search (rules, stands-tapped, exact-action, not_holding)

-- the state says nothing of what is remembered of an accent
stands-accent : (u : Under) (h : List Event) (s : State) → Stands u h s → Stands u h (with_accent s)
stands-accent u h s x = search rules

-- the events of a move lead from a state to the next
pub stands-move : (u : Under) (h : List Event) (s : State) (move : Move) → IsMove u s move → Stands u h s
    → Stands u (events_of_move move ++ h) (moved u s move)
stands-move u h s (Hold k i) ((lt, idle, (seen, may)), free) x = record {
  exact =
      rw (pressed-look u h s k (Act (act.Mod i)) x.exact.follows x.second seen)
      (exact-hold (resolved u.maps h) s k i x.exact idle free);
  second = x.second;
  key = λ j n p. elim (cases_Bool (same_modifier i j)) [
    | inl t ↦ subst (λ z. z < 128) (same_Some k n (rw t at p)) lt
    | inr t ↦ x.key j n (rw t at p)
  ];
  pressed = λ n p. elim (cases_Bool (k == n)) [
    | inl t ↦ (i, subst (λ y. Holds (with_holder s i (Some k)) y i) (eqb-true k n t) (hold-self s i k))
    | inr t ↦ hold-other s i k n free (x.pressed n (rw (pressed-press n k h, t) at p))
  ];
  keys = All-cons HasKey (Press k) h lt x.keys;
}
stands-move u h s (Turn k l) ((lt, idle, (seen, may)), other) x = record {
  exact =
      rw (
        resolved-more u.maps (Press k ∷ h) (Release k),
        pressed-look u h s k (Act (act.Lock l)) x.exact.follows x.second seen,
      )
      (exact-turn (resolved u.maps h) s k l x.exact idle);
  second = x.second;
  key = x.key;
  pressed = λ n p. x.pressed n (tapped-pressed h k n p);
  keys = All-cons HasKey (Release k) (Press k ∷ h) lt (All-cons HasKey (Press k) h lt x.keys);
}
stands-move u h s (Tap k) (accent, minded, can, (lt, idle, (seen, may)), none) x =
    stands-accent u (Release k ∷ Press k ∷ h) s (dead-tapped u h s accent k lt x idle seen)
stands-move u h s (LetGo k i) holds x = record {
  exact = rw (resolved-more u.maps h (Release k)) (exact-let_go (resolved u.maps h) s k i x.exact holds);
  second = x.second;
  key = λ j n p. elim (cases_Bool (same_modifier i j)) [
    | inl t ↦ absurd (none-some n (rw t at p))
    | inr t ↦ x.key j n (rw t at p)
  ];
  pressed = λ n p. elim (cases_Bool (k == n)) [
    | inl t ↦ absurd (false≢true (rw (pressed-release n k h, t) at p))
    | inr t ↦ let_go-other s i k n holds t (x.pressed n (rw (pressed-release n k h, t) at p))
  ];
  keys = All-cons HasKey (Release k) h (x.key i k holds) x.keys;
}
stands-move u h s Exchange (free, loads) x = record {
  exact =
      rw (resolved-more u.maps h Load)
      (rw (← x.second) (exact-exchange (map_of u (not s.is_second)) (resolved u.maps h) s x.exact free));
  second = ap not x.second;
  key = x.key;
  pressed = λ n p. absurd (true≢false (sym p ∙ pressed-load n h));
  keys = All-cons HasKey Load h tt x.keys;
}

-- no events lead to the start
pub stands-start : (u : Under) → Stands u [] start
stands-start u = record {
  exact = rw (resolved-start u.maps) (record {
    follows = follows-start;
    only = λ k a e. absurd (none-some a (sym (remembered-start k) ∙ e));
    up = λ l. held-start (holding.Lock l);
  });
  second = refl;
  key = λ i k h. absurd (none-some k h);
  pressed = λ k p. absurd (true≢false (sym p ∙ pressed-start k));
  keys = All-nil HasKey;
}

-- A console stands in the state of a path after the events along it.
pub stands : (u : Under) (path : List Move) → IsPath u path → Stands u (events_along path) (state_after u path)
stands u [] is = stands-start u
stands u (move ∷ path) is = stands-move u (events_along path) (state_after u path) move is.0 (stands u path is.1)

-- A console that stands in a state stands in that of a path from there after the events along it.
pub stands-from : (u : Under) (h : List Event) (s : State) (path : List Move) → Stands u h s → IsPathFrom u s path
    → Stands u (events_along path ++ h) (state_from u s path)
stands-from u h s [] x is = x
stands-from u h s (move ∷ path) x is =
    search (rules, append_assoc, stands-move, stands-from u h s path x is.1)

-- ---- where an accent is minded

-- a move where none is minded is one where one is
pub plain-minded : (u : Under) (accent : ℕ) (s : State) (move : Move) → u.minded ≡ None → IsMove u s move
    → IsMove (minding u accent) s move × (moved (minding u accent) s move ≡ moved u s move)
plain-minded u accent s (Tap k) none is = absurd (none-some is.0 (sym none ∙ is.1))
plain-minded u accent s (Hold k i) none is = (is, refl)
plain-minded u accent s (Turn k l) none is = (is, refl)
plain-minded u accent s (LetGo k i) none is = (is, refl)
plain-minded u accent s Exchange none is = (is, refl)

pub minded-path : (u : Under) (accent : ℕ) (s : State) (path : List Move) → u.minded ≡ None → IsPathFrom u s path
    → IsPathFrom (minding u accent) s path × (state_from (minding u accent) s path ≡ state_from u s path)
minded-path u accent s [] none is = (tt, refl)
minded-path u accent s (move ∷ path) none is =
    search (rules, plain-minded, minded-path u accent s path none is.1)

-- how a console stands says nothing of accents
pub stands-minded : (u : Under) (accent : ℕ) (h : List Event) (s : State) → Stands u h s → Stands (minding u accent) h s
stands-minded u accent h s x =
    record { exact = x.exact; second = x.second; key = x.key; pressed = x.pressed; keys = x.keys }

pub stands-plain : (u : Under) (accent : ℕ) (h : List Event) (s : State) → Stands (minding u accent) h s → Stands u h s
stands-plain u accent h s x =
    record { exact = x.exact; second = x.second; key = x.key; pressed = x.pressed; keys = x.keys }

-- a console stands in the state of a path along which the accent is tapped
pub minded-stands : (m : MapValue) (accent : ℕ) (h : List Event) (s : State) (path : List Move) → Stands (alone m) h s
    → IsPathFrom (minding (alone m) accent) s path
    → Stands (alone m) (events_along path ++ h) (state_from (minding (alone m) accent) s path)
minded-stands m accent h s path x is =
    stands-plain (alone m) accent _ _
    (stands-from (minding (alone m) accent) h s path (stands-minded (alone m) accent h s x) is)

-- After a reset a console of one map stands in the free state with the locks that are on but for the scroll lock.
pub stands-reset : (m : MapValue) (h : List Event) (s : State) → IsFree s → s.is_second ≡ false
    → ((l : Lock) → l ≢ Scroll → is_locked_after (between m m) l h ≡ s.is_locked l) → HasKeys h → HasNoLoads h
    → Stands (alone m) (Reset ∷ h) s
stands-reset m h s free first locks keys none =
    search (
      rules,
      resolved-more,
      held-reset,
      locked-reset,
      none-some,
      remembered-reset,
      no_loads-first,
      All-cons,
      pressed-reset,
    )
