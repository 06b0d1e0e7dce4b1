-- Which map is in force along a path, and which locks a press turns.
use Rattle.std.proofs.Common.{rules}
use Rattle.console_states.proofs.Common.{cases_Bool, inl, inr, ◌≡◌, ℕ, true, false, List, [], ◌∷◌, Option, Some, None}
use Rattle.console_states.proofs.Common.{refl, ap, sym, ◌∙◌, true≢false, false_from_ne_true, eq-eqb, none-some}
use Rattle.console_states.proofs.Common.{same_action, MapValue, same_action-true, ResolvedEvent, locked, remembered}
use Rattle.console_states.proofs.Common.{taken_over, PressedAction, between, resolved, is_locked_after, pressed}
use Rattle.console_states.proofs.Common.{alone, State, look_in, IsIdle, state_from, IsPathFrom, with_lock_turned}
use Rattle.console_states.proofs.Common.{HoldsSome, Stands, Action, Lock, Cell, Char, Act, Event}
use Rattle.console_states.proofs.Common.{Press, Move, Hold, Turn, Tap, LetGo, Exchange, Under, locked-action}
use Rattle.console_states.proofs.Common.{locked-character}
use Rattle.console_states.proofs.Common.{pressed-press, ◌≢◌, ◌++◌, not, Scroll, Exact, IsMove, append_assoc, Release}
use Rattle.console_states.proofs.Common.{events_along, events_of_move, resolved-more, same_action-refl}
use Rattle.console_states.proofs.Common.{Caps, Num, Alt, minding}
use Rattle.console_core.proofs.Shared.{locked-release}
use Rattle.console_states.proofs.Standing.{idle-none, minded-path, minded-stands, pressed-look}
use Rattle.console_states.proofs.Following.{follows-turn}
use Rattle.keymap_core.specs.declared.action.Action.TheVariants as act

-- without loads one map stays in force
pub first-along : (u : Under) → u.has_loads ≡ false → (s : State) (path : List Move) → IsPathFrom u s path
    → (state_from u s path).is_second ≡ s.is_second
first-along u none s [] is = refl
first-along u none s (Hold k i ∷ path) is = first-along u none s path is.1
first-along u none s (Turn k l ∷ path) is = first-along u none s path is.1
first-along u none s (Tap k ∷ path) is = first-along u none s path is.1
first-along u none s (LetGo k i ∷ path) is = first-along u none s path is.1
first-along u none s (Exchange ∷ path) is = absurd (true≢false (sym is.0.1 ∙ none))

pub path-first : (m : MapValue) (s : State) (path : List Move) → IsPathFrom (alone m) s path
    → (state_from (alone m) s path).is_second ≡ s.is_second
path-first m s path is = first-along (alone m) refl s path is

-- where no accent is minded, none gets pending
pub none-along : (u : Under) → u.minded ≡ None → (s : State) (path : List Move) → IsPathFrom u s path
    → s.is_pending ≡ false → (state_from u s path).is_pending ≡ false
none-along u none s [] is off = off
none-along u none s (Hold k i ∷ path) is off = none-along u none s path is.1 off
none-along u none s (Turn k l ∷ path) is off = none-along u none s path is.1 off
none-along u none s (Tap k ∷ path) is off = absurd (none-some is.0.0 (sym none ∙ is.0.1))
none-along u none s (LetGo k i ∷ path) is off = none-along u none s path is.1 off
none-along u none s (Exchange ∷ path) is off = refl

pub path-none : (m : MapValue) (s : State) (path : List Move) → IsPathFrom (alone m) s path
    → s.is_pending ≡ false → (state_from (alone m) s path).is_pending ≡ false
path-none m s path is off = none-along (alone m) refl s path is off

-- a release turns no lock
scroll-release : (m : MapValue) (h : List Event) (k : ℕ)
    → is_locked_after (between m m) Scroll (Release k ∷ h) ≡ is_locked_after (between m m) Scroll h
scroll-release m h k = search (rules, resolved-more, locked-release)

-- an action that is no lock
not-lock : (b : Action) (l : Lock) → (b ≡ act.Lock l → ⊥) → same_action b (act.Lock l) ≡ false
not-lock b l none = false_from_ne_true (same_action b (act.Lock l)) (λ e. none (same_action-true b (act.Lock l) e))

-- what takes no lock turns none
turns-none : (r : List ResolvedEvent) (k : ℕ) (b : Action) (l : Lock)
    → same_action (taken_over (remembered k r) b) (act.Lock l) ≡ false → locked l (PressedAction k b ∷ r) ≡ locked l r
turns-none r k b l e = cc (locked-action l k b r, e)

-- what a press of an idle key that looks up a lock takes
takes-lock : (r : List ResolvedEvent) (s : State) (k : ℕ) (l : Lock) → Exact r s → IsIdle s k
    → taken_over (remembered k r) (act.Lock l) ≡ act.Lock l
takes-lock r s k l x idle = ap (λ o. taken_over o (act.Lock l)) (idle-none r s k x idle)

-- a press turns the lock that an idle key looks up
pub press-turns : (m : MapValue) (h : List Event) (s : State) (k : ℕ) (l : Lock) → Stands (alone m) h s → IsIdle s k
    → look_in (alone m) s k ≡ Act (act.Lock l) → (j : Lock) → j ≢ Scroll
    → is_locked_after (between m m) j (Press k ∷ h) ≡ (with_lock_turned s l).is_locked j
press-turns m h s k l x idle seen j other =
    let r : List ResolvedEvent = resolved (between m m) h in
    let e = takes-lock r s k l x.exact idle in
    ap (λ z. locked j z) (pressed-look (alone m) h s k (Act (act.Lock l)) x.exact.follows x.second seen)
    ∙ (follows-turn r s k (act.Lock l) l x.exact.follows e (x.exact.up l)).locked j other

-- so it does the scroll lock, of which the state doesn't tell
pub press-flips : (m : MapValue) (h : List Event) (s : State) (k : ℕ) (l : Lock) → Stands (alone m) h s → IsIdle s k
    → look_in (alone m) s k ≡ Act (act.Lock l)
    → is_locked_after (between m m) l (Press k ∷ h) ≡ not (is_locked_after (between m m) l h)
press-flips m h s k l x idle seen =
    let r : List ResolvedEvent = resolved (between m m) h in
    let e = takes-lock r s k l x.exact idle in
    ap (λ z. locked l z) (pressed-look (alone m) h s k (Act (act.Lock l)) x.exact.follows x.second seen)
    ∙ rw (locked-action l k (act.Lock l) r, e, same_action-refl (act.Lock l), x.exact.up l) refl

-- no other press turns a lock
pub press-turns_none : (m : MapValue) (h : List Event) (s : State) (k : ℕ) → Stands (alone m) h s
    → (j : Lock) → (IsIdle s k → look_in (alone m) s k ≡ Act (act.Lock j) → ⊥)
    → is_locked_after (between m m) j (Press k ∷ h) ≡ is_locked_after (between m m) j h
press-turns_none m h s k x j none = by (look_in (alone m) s k) refl
  where
    r : List ResolvedEvent
    r = resolved (between m m) h

    action : (b : Action) → look_in (alone m) s k ≡ Act b → (o : Option Action) → remembered k r ≡ o
        → same_action (taken_over (remembered k r) b) (act.Lock j) ≡ false
    action b seen None e =
        let idle : IsIdle s k = λ i holds. none-some (act.Mod i) (sym e ∙ x.exact.follows.holds i k holds) in
        ap (λ z. same_action (taken_over z b) (act.Lock j)) e
        ∙ not-lock b j (λ is. none idle (seen ∙ ap (λ a. Act a) is))
    action b seen (Some a) e =
        let p : HoldsSome s k = x.exact.only k a e in
        rw (x.exact.follows.holds p.0 k p.1)
        (elim (cases_Bool (same_action (act.Mod p.0) b)) [
          | inl t ↦ rw (t, ← same_action-true (act.Mod p.0) b t) refl
          | inr t ↦ rw t refl
        ])

    by : (c : Cell) → look_in (alone m) s k ≡ c
        → is_locked_after (between m m) j (Press k ∷ h) ≡ is_locked_after (between m m) j h
    by (Char c) seen =
        ap (λ z. locked j z) (pressed-look (alone m) h s k (Char c) x.exact.follows x.second seen)
        ∙ locked-character j k c r
    by (Act b) seen =
        ap (λ z. locked j z) (pressed-look (alone m) h s k (Act b) x.exact.follows x.second seen)
        ∙ turns-none r k b j (action b seen (remembered k r) refl)

-- a tap of a key that looks up something else leaves the scroll lock as it is
pub scroll-tap : (m : MapValue) (h : List Event) (s : State) (k : ℕ) (c : Cell) → Stands (alone m) h s
    → look_in (alone m) s k ≡ c → (c ≡ Act (act.Lock Scroll) → ⊥)
    → is_locked_after (between m m) Scroll (Release k ∷ Press k ∷ h) ≡ is_locked_after (between m m) Scroll h
scroll-tap m h s k c x seen other = search (rules, scroll-release, press-turns_none)

-- so do moves, and taps of an accent that is minded
scroll-move : (m : MapValue) (accent : ℕ) (h : List Event) (s : State) (move : Move)
    → IsMove (minding (alone m) accent) s move → Stands (alone m) h s
    → is_locked_after (between m m) Scroll (events_of_move move ++ h) ≡ is_locked_after (between m m) Scroll h
scroll-move m accent h s (Hold k i) ((lt, idle, (seen, may)), free) x =
    press-turns_none m h s k x Scroll (λ still looked. cc (seen, looked))
scroll-move m accent h s (Turn k l) ((lt, idle, (seen, may)), other) x =
    search (rules, scroll-release, press-turns_none)
scroll-move m accent h s (Tap k) (i, minded, can, (lt, idle, (seen, may)), off) x =
    scroll-tap m h s k (Act (act.DeadKey i)) x seen (λ e. cc)
scroll-move m accent h s (LetGo k i) holds x = scroll-release m h k
scroll-move m accent h s Exchange (free, loads) x = absurd (true≢false (sym loads))

pub minded-scroll : (m : MapValue) (accent : ℕ) (h : List Event) (s : State) (path : List Move) → Stands (alone m) h s
    → IsPathFrom (minding (alone m) accent) s path
    → is_locked_after (between m m) Scroll (events_along path ++ h) ≡ is_locked_after (between m m) Scroll h
minded-scroll m accent h s [] x is = refl
minded-scroll m accent h s (move ∷ path) x is =
    ap (λ g. is_locked_after (between m m) Scroll g) (append_assoc (events_of_move move) (events_along path) h)
    ∙ scroll-move m accent (events_along path ++ h) (state_from (minding (alone m) accent) s path) move is.0
    (minded-stands m accent h s path x is.1)
    ∙ minded-scroll m accent h s path x is.1

pub scroll-along : (m : MapValue) (h : List Event) (s : State) (path : List Move) → Stands (alone m) h s
    → IsPathFrom (alone m) s path
    → is_locked_after (between m m) Scroll (events_along path ++ h) ≡ is_locked_after (between m m) Scroll h
scroll-along m h s path x is = minded-scroll m 0 h s path x (minded-path (alone m) 0 s path refl is).0

-- no path turns it in a state
pub off-along : (u : Under) → u.has_loads ≡ false → (s : State) (path : List Move) → IsPathFrom u s path
    → s.is_locked Scroll ≡ false → (state_from u s path).is_locked Scroll ≡ false
off-along u none s [] is off = off
off-along u none s (Hold k i ∷ path) is off = off-along u none s path is.1 off
off-along u none s (Turn k Scroll ∷ path) ((takes, other), is) off = absurd (other refl)
off-along u none s (Turn k Caps ∷ path) is off = off-along u none s path is.1 off
off-along u none s (Turn k Num ∷ path) is off = off-along u none s path is.1 off
off-along u none s (Turn k Alt ∷ path) is off = off-along u none s path is.1 off
off-along u none s (Tap k ∷ path) is off = off-along u none s path is.1 off
off-along u none s (LetGo k i ∷ path) is off = off-along u none s path is.1 off
off-along u none s (Exchange ∷ path) is off = absurd (true≢false (sym is.0.1 ∙ none))

pub path-off : (m : MapValue) (s : State) (path : List Move) → IsPathFrom (alone m) s path
    → s.is_locked Scroll ≡ false → (state_from (alone m) s path).is_locked Scroll ≡ false
path-off m s path is off = off-along (alone m) refl s path is off

-- a key is pressed after a press of it
pub press-presses : (k : ℕ) (h : List Event) → pressed k (Press k ∷ h) ≡ true
press-presses k h = rw (pressed-press k k h, eq-eqb k k refl) refl
