-- Taps of keys in states that moves lead to: where they lead, and what they type.
use Rattle.console_states.specs.declared.held.Move.TheVariants as variants
use Rattle.console_scripts.proofs.Common.{cases_Bool, ◌≡◌, ◌+◌, ◌<◌, ℕ, Bool, true, false, List, [], ◌∷◌, ◌++◌, Option}
use Rattle.console_scripts.proofs.Common.{Some, None, refl, ap, subst, sym, ◌∙◌, inl, inr, arith, append_assoc, map}
use Rattle.console_scripts.proofs.Common.{false_from_ne_true, pressed, IsFree, IsQuiet, reverse, if◌then◌else◌, ◌==◌}
use Rattle.console_scripts.proofs.Common.{true≢false, eqb-true, eq-eqb, reverse-append, none-some, same_modifier}
use Rattle.console_scripts.proofs.Common.{modifier_index, own_of, MapValue, accent_at, Action, Modifier, Meta, Cell}
use Rattle.console_scripts.proofs.Common.{Char, Act, Event, Press, Release, Answer, Move, Hold, Turn, LetGo, Exchange}
use Rattle.console_scripts.proofs.Common.{Symbol, usable, answer_action, ResolvedEvent, remembered, taken_over, pending}
use Rattle.console_scripts.proofs.Common.{resolve_press, next_pending, between, resolved, is_second_in_force}
use Rattle.console_scripts.proofs.Common.{accent_pending_after, is_on_after, remembered_after, look_after, Under, alone}
use Rattle.console_scripts.proofs.Common.{State, Holds, IsIdle, IsMove, look_in, is_held, with_holder, IsPathFrom}
use Rattle.console_scripts.proofs.Common.{state_from, events_along, events_of_move, IsTapOf, composed_of}
use Rattle.console_scripts.proofs.Common.{types_something, plainly, LetsGo, HasTyped, typed_along, kept_if}
use Rattle.console_scripts.proofs.Common.{HoldsSome, Stands, rules, place_last, same_states, stands-from}
use Rattle.console_scripts.proofs.Common.{answers_by_cases, one_map, pending-action, pending-character, pending-release}
use Rattle.console_scripts.proofs.Common.{pressed-press, resolved-more}
use Rattle.console_core.specs.Reading.{answer_to_look}
use Rattle.console_core.specs.History.{answer_to}
use Rattle.console_scripts.specs.Typing.{ChangeKeys}
use Rattle.console_core.specs.Answers.{answer_dead_key, answer_char, answer_release}
use Rattle.console_states.proofs.Shared.{exact-action, exact-character, follows-look, holder-pressed, idle-none}
use Rattle.console_states.proofs.Shared.{not_holding, pending-along, pending-is, pressed-look, scroll-along, scroll-tap}
use Rattle.console_states.proofs.Shared.{stands-tapped}
use Rattle.keymap_core.proofs.Shared.{same_action-refl}
use Rattle.keymap_core.specs.declared.action.Action.TheVariants as act
use Rattle.console_core.specs.declared.event.Answer.TheVariants as answer
use Rattle.console_scripts.specs.declared.explored.Symbol.TheVariants as symbol

-- ---- letting go of all holders

-- the holders of the first n modifiers have let go
pub record LetsGoTo (s : State) (h now : List Event) (next : State) (n : ℕ) : Type 0 where
  pub path : List Move
  pub is : (u : Under) → IsPathFrom u s path
  pub leads : (u : Under) → state_from u s path ≡ next
  pub gone : (i : Modifier) → modifier_index i < n → next.holder i ≡ None
  pub locks : next.is_locked ≡ s.is_locked
  pub second : next.is_second ≡ s.is_second
  pub pending : next.is_pending ≡ s.is_pending
  pub events : now ≡ events_along path ++ h

pub lets-go-first : (s : State) (h : List Event) → LetsGoTo s h h s 0
lets-go-first s h = record {
  path = [];
  is = λ u. tt;
  leads = λ u. refl;
  gone = λ i lt. absurd (omega (arith, lt));
  locks = refl;
  second = refl;
  pending = refl;
  events = refl;
}

pub lets-go-some : (s : State) (h now : List Event) (t : State) (n : ℕ) (i : Modifier) (k : ℕ) → LetsGoTo s h now t n
    → ((j : Modifier) → modifier_index j ≡ n → i ≡ j) → t.holder i ≡ Some k
    → LetsGoTo s h (Release k ∷ now) (with_holder t i None) (n + 1)
lets-go-some s h now t n i k x at holds = record {
  path = LetGo k i ∷ x.path;
  is = λ u. (subst (λ z. Holds z k i) (sym (x.leads u)) holds, x.is u);
  leads = λ u. ap (λ z. with_holder z i None) (x.leads u);
  gone = λ j lt. elim (place_last (modifier_index j) n lt) [
    | inl below ↦ elim (cases_Bool (same_modifier i j)) [ inl e ↦ rw e refl | inr e ↦ rw e (x.gone j below) ]
    | inr e ↦ rw (subst (λ z. same_modifier i z ≡ true) (at j e) (same_action-refl (act.Mod i))) refl
  ];
  locks = x.locks;
  second = x.second;
  pending = x.pending;
  events = ap (λ z. Release k ∷ z) x.events;
}

pub lets-go-none : (s : State) (h now : List Event) (t : State) (n : ℕ) (i : Modifier) → LetsGoTo s h now t n
    → ((j : Modifier) → modifier_index j ≡ n → i ≡ j) → t.holder i ≡ None
    → LetsGoTo s h now t (n + 1)
lets-go-none s h now t n i x at none = search (rules, place_last)

below_eight : (i : Modifier) → modifier_index i < 8
below_eight Meta = omega arith
below_eight _ = omega arith

pub lets-go-all : (s : State) (h now : List Event) (t : State) → LetsGoTo s h now t 8 → LetsGo s h now t
lets-go-all s h now t x = search (rules, same_states, below_eight)

-- ---- a tap of a key

-- after a tap the console stands as before
pub stands-tap : (u : Under) (h : List Event) (s : State) (plain : Bool) (x : Symbol) (k : ℕ) → Stands u h s
    → IsTapOf u s plain x k
    → Stands u (Release k ∷ Press k ∷ h) s
stands-tap u h s plain (symbol.Character c) k st (lt, idle, seen, meta) = search (rules, stands-tapped, exact-character)
stands-tap u h s plain (symbol.DeadKey j) k st (lt, idle, seen, meta) =
    search (rules, stands-tapped, exact-action, not_holding)

-- ---- answers

-- the answer to a press, by what is looked up
abbrev pub answer_at : MapValue → Option ℕ → Bool → Option Action → Cell → Answer
answer_at m p meta o (Char c) = answer_char m p meta c
answer_at m p meta o (Act a) = answer_action m p meta (taken_over o a)

pub look-answer : (m : MapValue) (h : List Event) (k : ℕ) (x : Cell)
    → answer_to_look (between m m) k h x
    ≡ answer_at m (accent_pending_after (between m m) h) (is_on_after (between m m) Meta h)
    (remembered_after (between m m) k h) x
look-answer m h k (Char c) = cc (one_map m (is_second_in_force h))
look-answer m h k (Act a) = cc (one_map m (is_second_in_force h))

press-answer : (m : MapValue) (h : List Event) (s : State) (k : ℕ) (x : Cell) → Stands (alone m) h s
    → look_in (alone m) s k ≡ x
    → answer_to (between m m) h (Press k)
    ≡ answer_at m (accent_pending_after (between m m) h) (is_on_after (between m m) Meta h)
    (remembered_after (between m m) k h) x
press-answer m h s k x st seen =
    let looked : look_after (between m m) k h ≡ x =
    cc (st.second, follows-look (alone m) (resolved (between m m) h) s k st.exact.follows, seen) in
    (answers_by_cases (between m m) k h).0 ∙ ap (λ c. answer_to_look (between m m) k h c) looked ∙ look-answer m h k x

-- a further event, by its answer
typed-more : (m : MapValue) (h : List Event) (e : Event) (a : Answer) → answer_to (between m m) h e ≡ a
    → typed_along m (e ∷ h) ≡ kept_if (types_something a) a ++ typed_along m h
typed-more m h e a is = ap (λ z. kept_if (types_something z) z ++ typed_along m h) is

-- a release types nothing
release-silent : (o : Option Action) → kept_if (types_something (answer_release o)) (answer_release o) ≡ []
release-silent None = refl
release-silent (Some a) = refl

typed-release : (m : MapValue) (h : List Event) (k : ℕ) → typed_along m (Release k ∷ h) ≡ typed_along m h
typed-release m h k = search (rules, typed-more, release-silent)

-- a move types nothing
typed-move : (m : MapValue) (h : List Event) (s : State) (move : Move) → IsMove (alone m) s move → Stands (alone m) h s
    → typed_along m (events_of_move move ++ h) ≡ typed_along m h
typed-move m h s (Hold k i) ((lt, idle, (seen, may)), free) st =
    typed-more m h (Press k) (answer.Special (act.Mod i))
    (rw (press-answer m h s k (Act (act.Mod i)) st seen, idle-none (resolved (between m m) h) s k st.exact idle) refl)
typed-move m h s (Turn k l) ((lt, idle, (seen, may)), other) st =
    typed-release m (Press k ∷ h) k
    ∙ typed-more m h (Press k) (answer.Special (act.Lock l))
    (rw (press-answer m h s k (Act (act.Lock l)) st seen, idle-none (resolved (between m m) h) s k st.exact idle) refl)
typed-move m h s (variants.Tap k) is st = absurd (none-some is.0 is.1)
typed-move m h s (LetGo k i) holds st = typed-release m h k
typed-move m h s Exchange (free, loads) st = absurd (true≢false (sym loads))

typed-path : (m : MapValue) (h : List Event) (s : State) (path : List Move) → Stands (alone m) h s
    → IsPathFrom (alone m) s path
    → typed_along m (events_along path ++ h) ≡ typed_along m h
typed-path m h s [] st is = refl
typed-path m h s (move ∷ path) st is =
    search (rules, append_assoc, typed-move, stands-from, typed-path m h s path st is.1)

-- ---- which keys are pressed

-- a key that holds nothing isn't pressed
idle-up : (u : Under) (h : List Event) (s : State) (k : ℕ) → Stands u h s → IsIdle s k → pressed k h ≡ false
idle-up u h s k x idle =
    false_from_ne_true (pressed k h) (λ p. let w : HoldsSome s k = x.pressed k p in idle w.0 w.1)

-- where nothing is held no key is pressed
pub quiet-free : (u : Under) (h : List Event) (s : State) → Stands u h s → IsFree s → IsQuiet h
quiet-free u h s x free k lt = idle-up u h s k x (λ i holds. none-some k (sym (free i) ∙ holds))

-- a tap presses a released key, and releases it
changes-tap : (u : Under) (h : List Event) (s : State) (k : ℕ) → Stands u h s → IsIdle s k → ChangeKeys h
    → ChangeKeys (Release k ∷ Press k ∷ h)
changes-tap u h s k x idle changes =
    (rw (pressed-press k k h, eq-eqb k k refl) refl, (idle-up u h s k x idle, changes))

-- a move presses released keys, and releases pressed ones
changes-move : (m : MapValue) (h : List Event) (s : State) (move : Move) → IsMove (alone m) s move
    → Stands (alone m) h s → ChangeKeys h
    → ChangeKeys (events_of_move move ++ h)
changes-move m h s (Hold k i) ((lt, idle, made), free) st changes = (idle-up (alone m) h s k st idle, changes)
changes-move m h s (Turn k l) ((lt, idle, made), other) st changes = changes-tap (alone m) h s k st idle changes
changes-move m h s (variants.Tap k) is st changes = absurd (none-some is.0 is.1)
changes-move m h s (LetGo k i) holds st changes = (holder-pressed (alone m) h s i k st holds, changes)
changes-move m h s Exchange (free, loads) st changes = absurd (true≢false (sym loads))

changes-path : (m : MapValue) (h : List Event) (s : State) (path : List Move) → Stands (alone m) h s
    → IsPathFrom (alone m) s path → ChangeKeys h
    → ChangeKeys (events_along path ++ h)
changes-path m h s [] st is changes = changes
changes-path m h s (move ∷ path) st is changes =
    rw (append_assoc (events_of_move move) (events_along path) h)
    (changes-move m (events_along path ++ h) (state_from (alone m) s path) move is.0
    (stands-from (alone m) h s path st is.1) (changes-path m h s path st is.1 changes))

-- ---- what is typed

-- along moves nothing more is
pub walked : (m : MapValue) (h : List Event) (s : State) (p : Option ℕ) (cs : List ℕ) (path : List Move)
    → HasTyped m h s p cs → IsPathFrom (alone m) s path
    → HasTyped m (events_along path ++ h) (state_from (alone m) s path) p cs
walked m h s p cs path x is = record {
  stands = stands-from (alone m) h s path x.stands is;
  changes = changes-path m h s path x.stands is x.changes;
  pending = cc (pending-is m (events_along path ++ h), pending-along m h s path x.stands is, pending-is m h, x.pending);
  scroll = scroll-along m h s path x.stands is ∙ x.scroll;
  typed = typed-path m h s path x.stands is ∙ x.typed;
}

one-more : (cs : List ℕ) (c : ℕ) → plainly c ∷ map plainly (reverse cs) ≡ map plainly (reverse (cs ++ c ∷ []))
one-more cs c = ap (λ z. map plainly z) (sym (reverse-append cs (c ∷ [])))

-- meta is off
meta-off : (m : MapValue) (h : List Event) (s : State) → Stands (alone m) h s → is_held s Meta ≡ false
    → is_on_after (between m m) Meta h ≡ false
meta-off m h s st off = st.exact.follows.on Meta ∙ off

-- what is pending after a tap
pending-tap : (m : MapValue) (h : List Event) (s : State) (k : ℕ) (x : Cell) (p : Option ℕ) → Stands (alone m) h s
    → look_in (alone m) s k ≡ x → pending m (resolve_press k x ∷ resolved (between m m) h) ≡ p
    → accent_pending_after (between m m) (Release k ∷ Press k ∷ h) ≡ p
pending-tap m h s k x p st seen e =
    pending-is m (Release k ∷ Press k ∷ h)
    ∙ ap (λ r. pending m r) (resolved-more (between m m) (Press k ∷ h) (Release k))
    ∙ pending-release m k (resolved (between m m) (Press k ∷ h))
    ∙ ap (λ r. pending m r) (pressed-look (alone m) h s k x st.exact.follows st.second seen) ∙ e

-- a tap of a character types it
pub tap-direct : (m : MapValue) (h : List Event) (s : State) (cs : List ℕ) (c k : ℕ) → HasTyped m h s None cs
    → IsTapOf (alone m) s true (symbol.Character c) k
    → HasTyped m (Release k ∷ Press k ∷ h) s None (cs ++ c ∷ [])
tap-direct m h s cs c k x is = record {
  stands = stands-tap (alone m) h s true (symbol.Character c) k x.stands is;
  changes = changes-tap (alone m) h s k x.stands is.1 x.changes;
  pending = cc (pending-tap m h s k (Char c) None x.stands is.2 (pending-character m k c (resolved (between m m) h)));
  scroll = scroll-tap m h s k (Char c) x.stands is.2 (λ e. cc) ∙ x.scroll;
  typed =
      typed-release m (Press k ∷ h) k
      ∙ typed-more m h (Press k) (plainly c)
      (cc (press-answer m h s k (Char c) x.stands is.2, x.pending, meta-off m h s x.stands (is.3 refl)))
      ∙ ap (λ z. plainly c ∷ z) x.typed ∙ one-more cs c;
}

-- what a dead key makes pending, and gives
dead-makes : (m : MapValue) (i : ℕ) → usable m i ≡ true → next_pending m None (act.DeadKey i) ≡ Some i
dead-makes m i can = rw can refl

dead-silent : (m : MapValue) (i : ℕ) (meta : Bool) → usable m i ≡ true → answer_dead_key m None meta i ≡ answer.None
dead-silent m i meta can = rw can refl

-- a tap of a dead key makes its accent pending
pub tap-dead : (m : MapValue) (h : List Event) (s : State) (cs : List ℕ) (i k : ℕ) → HasTyped m h s None cs
    → IsTapOf (alone m) s false (symbol.DeadKey i) k → usable m i ≡ true
    → HasTyped m (Release k ∷ Press k ∷ h) s (Some i) cs
tap-dead m h s cs i k x is can =
    let r : List ResolvedEvent = resolved (between m m) h in
    let free : remembered k r ≡ None = idle-none r s k x.stands.exact is.1 in
    let still : pending m r ≡ None = sym (pending-is m h) ∙ x.pending in
    record {
      stands = stands-tap (alone m) h s false (symbol.DeadKey i) k x.stands is;
      changes = changes-tap (alone m) h s k x.stands is.1 x.changes;
      pending =
          pending-tap m h s k (Act (act.DeadKey i)) (Some i) x.stands is.2
          (rw (pending-action m k (act.DeadKey i) r, free, still) (dead-makes m i can));
      scroll = scroll-tap m h s k (Act (act.DeadKey i)) x.stands is.2 (λ e. cc) ∙ x.scroll;
      typed =
          typed-release m (Press k ∷ h) k
          ∙ typed-more m h (Press k) answer.None
          (rw (press-answer m h s k (Act (act.DeadKey i)) x.stands is.2, free, x.pending)
          (dead-silent m i (is_on_after (between m m) Meta h) can))
          ∙ x.typed;
    }

-- the pending dead key once more
own-given : (m : MapValue) (i c : ℕ) → usable m i ≡ true → own_of (accent_at m i) ≡ Some c
    → answer_dead_key m (Some i) false i ≡ plainly c
own-given m i c can own = rw (can, eq-eqb i i refl, own) refl

own-ends : (m : MapValue) (i : ℕ) → usable m i ≡ true → next_pending m (Some i) (act.DeadKey i) ≡ None
own-ends m i can = rw (can, eq-eqb i i refl) refl

pub same-dead : (i j : ℕ) (o : Option ℕ) (c : ℕ) (t : Bool) → (j == i) ≡ t → (if t then o else None) ≡ Some c
    → (j ≡ i) × (o ≡ Some c)
same-dead i j o c true e f = (eqb-true j i e, f)
same-dead i j o c false e f = absurd (none-some c f)

-- a tap while an accent is pending types what that makes of it
pub tap-composed : (m : MapValue) (h : List Event) (s : State) (cs : List ℕ) (i : ℕ) (x : Symbol) (c k : ℕ)
    → HasTyped m h s (Some i) cs → IsTapOf (alone m) s true x k → usable m i ≡ true → composed_of m i x ≡ Some c
    → HasTyped m (Release k ∷ Press k ∷ h) s None (cs ++ c ∷ [])
tap-composed m h s cs i (symbol.Character b) c k x is can made = record {
  stands = stands-tap (alone m) h s true (symbol.Character b) k x.stands is;
  changes = changes-tap (alone m) h s k x.stands is.1 x.changes;
  pending = cc (pending-tap m h s k (Char b) None x.stands is.2 (pending-character m k b (resolved (between m m) h)));
  scroll = scroll-tap m h s k (Char b) x.stands is.2 (λ e. cc) ∙ x.scroll;
  typed =
      typed-release m (Press k ∷ h) k
      ∙ typed-more m h (Press k) (plainly c)
      (cc (press-answer m h s k (Char b) x.stands is.2, x.pending, meta-off m h s x.stands (is.3 refl), made))
      ∙ ap (λ z. plainly c ∷ z) x.typed ∙ one-more cs c;
}
tap-composed m h s cs i (symbol.DeadKey j) c k x is can made =
    let q = same-dead i j (own_of (accent_at m i)) c (j == i) refl made in
    again (subst (λ n. IsTapOf (alone m) s true (symbol.DeadKey n) k) q.0 is) q.1
  where
    r : List ResolvedEvent
    r = resolved (between m m) h

    again : IsTapOf (alone m) s true (symbol.DeadKey i) k → own_of (accent_at m i) ≡ Some c
        → HasTyped m (Release k ∷ Press k ∷ h) s None (cs ++ c ∷ [])
    again is own =
        let free : remembered k r ≡ None = idle-none r s k x.stands.exact is.1 in
        let still : pending m r ≡ Some i = sym (pending-is m h) ∙ x.pending in
        record {
          stands = stands-tap (alone m) h s true (symbol.DeadKey i) k x.stands is;
          changes = changes-tap (alone m) h s k x.stands is.1 x.changes;
          pending =
              pending-tap m h s k (Act (act.DeadKey i)) None x.stands is.2
              (rw (pending-action m k (act.DeadKey i) r, free, still) (own-ends m i can));
          scroll = scroll-tap m h s k (Act (act.DeadKey i)) x.stands is.2 (λ e. cc) ∙ x.scroll;
          typed =
              typed-release m (Press k ∷ h) k
              ∙ typed-more m h (Press k) (plainly c)
              (rw (press-answer m h s k (Act (act.DeadKey i)) x.stands is.2, free, x.pending)
              (rw (meta-off m h s x.stands (is.3 refl)) (own-given m i c can own)))
              ∙ ap (λ z. plainly c ∷ z) x.typed ∙ one-more cs c;
        }
