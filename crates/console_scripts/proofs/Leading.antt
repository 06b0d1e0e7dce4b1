-- Events lead a console from state to state: along moves and by taps.
use Rattle.console_states.proofs.Shared.{none-along}
use Rattle.console_scripts.specs.Types.{Tap}
use Rattle.console_scripts.proofs.Common.{none-some}
use Rattle.console_scripts.specs.Inner.Exploring.{IsOrigin}
use Rattle.console_scripts.proofs.Common.{◌≡◌, ◌<◌, ℕ, false, List, [], ◌∷◌, ◌++◌, reverse, slice_get}
use Rattle.console_scripts.proofs.Common.{Option, Some, None, refl, ap, subst, sym, ◌∙◌, inl, inr, append_assoc}
use Rattle.console_scripts.proofs.Common.{cases_Bool, false≢true}
use Rattle.console_scripts.proofs.Common.{MapValue, Modifier, Cell, Char}
use Rattle.console_scripts.proofs.Common.{Act, Event, Press, Release, Move, Hold, Turn, LetGo, Exchange, Sight}
use Rattle.console_scripts.proofs.Common.{Explored, between, resolved, accent_pending_after}
use Rattle.console_scripts.proofs.Common.{resolve_press, ReleasedKey}
use Rattle.console_scripts.proofs.Common.{Under, alone, State, start, IsIdle, look_in, IsMove, moved, IsPathFrom}
use Rattle.console_scripts.proofs.Common.{state_from, events_of_move, events_along, with_holder}
use Rattle.console_scripts.proofs.Common.{map_of_explored, origin_in, IsExplored, IsTapAt, LeadsHome}
use Rattle.console_scripts.proofs.Common.{state_of, Entry, IsTrail, IsReached, IsAt, Leads, IsDeadFor}
use Rattle.console_scripts.proofs.Common.{Exact, Stands, rules, KeyAt, LeadsToSee, LeadsOn}
use Rattle.console_scripts.proofs.Common.{home-start, path-first, reached-one, same_states}
use Rattle.console_scripts.proofs.Common.{stands-from}
use Rattle.console_scripts.specs.Visiting.{AreTaken}
use Rattle.console_scripts.specs.Inner.Exploring.{IsMetAt}
use Rattle.console_scripts.specs.Inner.Showing.{LeadsComposing}
use Rattle.console_states.specs.Moves.{IsSteady}
use Rattle.console_states.proofs.Shared.{exact-action, exact-character, hold-self}
use Rattle.console_states.proofs.Shared.{holder-pressed, kind_of, pending-is}
use Rattle.console_states.proofs.Shared.{pending-move, press-presses, same_mods, scroll-tapped}
use Rattle.console_states.proofs.Shared.{stands-move, stands-tapped, tap-pending}
use Rattle.console_scripts.proofs.Taps.{stands-tap}
use Rattle.keymap_core.specs.declared.action.Action.TheVariants as act
use Rattle.console_scripts.specs.declared.explored.Symbol.TheVariants as symbol
use Rattle.console_states.specs.declared.selection.Sight.TheVariants as sight

-- ---- along moves

-- the accent that is pending
abbrev pub pends : MapValue → List Event → Option ℕ
pends m h = accent_pending_after (between m m) h

-- a console goes along a move, and keeps the accent that is pending
pends-move : (m : MapValue) (g : List Event) (s : State) (move : Move) → IsMove (alone m) s move → Stands (alone m) g s
    → pends m (events_of_move move ++ g) ≡ pends m g
pends-move m g s move is x = cc (pending-is m (events_of_move move ++ g), pending-move m g s move is x, pending-is m g)

at-move : (m : MapValue) (s : State) (h l : List Event) (move : Move) → IsMove (alone m) s move → IsAt m s h l
    → IsAt m (moved (alone m) s move) h (events_of_move move ++ l)
    × (pends m ((events_of_move move ++ l) ++ h) ≡ pends m (l ++ h))
at-move m s h l move is a = (
  record {
    at = moved (alone m) a.at move;
    stands = rw (append_assoc (events_of_move move) l h) (stands-move (alone m) (l ++ h) a.at move here a.stands);
    near = ap (λ z. moved (alone m) z move) a.near;
    taken = taken move here;
  },
  rw (append_assoc (events_of_move move) l h) (pends-move m (l ++ h) a.at move here a.stands),
)
  where
    here : IsMove (alone m) a.at move
    here = subst (λ z. IsMove (alone m) z move) (sym a.near) is

    taken : (by : Move) → IsMove (alone m) a.at by → AreTaken h (events_of_move by ++ l)
    taken (Hold k i) can = (refl, tt, a.taken)
    taken (Turn k j) can = (refl, press-presses k (l ++ h), (refl, tt, a.taken))
    taken (LetGo k i) can = (refl, holder-pressed (alone m) (l ++ h) a.at i k a.stands can, a.taken)
    taken (Tap k) can = absurd (none-some can.0 can.1)
    taken Exchange (free, loads) = absurd (false≢true loads)

at-path : (m : MapValue) (s : State) (h l : List Event) (path : List Move) → IsPathFrom (alone m) s path → IsAt m s h l
    → IsAt m (state_from (alone m) s path) h (events_along path ++ l)
    × (pends m ((events_along path ++ l) ++ h) ≡ pends m (l ++ h))
at-path m s h l [] is a = (a, refl)
at-path m s h l (move ∷ path) is a =
    let (b, p) = at-path m s h l path is.1 a in
    let (c, q) = at-move m (state_from (alone m) s path) h (events_along path ++ l) move is.0 b in
    rw (append_assoc (events_of_move move) (events_along path) l) (c, q ∙ p)

-- the events to a place lead there
pub out-leads : (e : Explored) → IsExplored e → (place : ℕ) (y : Entry) → slice_get e.met.entries place ≡ Some y
    → (old now : List Event)
    → ((path : List Move) → IsTrail e.met.entries place path → now ≡ events_along path ++ old)
    → LeadsOn (map_of_explored e) (origin_in e) (state_of y.0) old now
out-leads e x place y at old now is h a =
    let m : MapValue = map_of_explored e in
    let r : IsReached (alone m) (origin_in e) e.met.entries place y = reached-one x.searched place y at in
    rw (is r.0 r.1, ← r.3) (at-path m (origin_in e) h old r.0 r.2 a)

-- the events of a route lead home
pub home-leads : (m : MapValue) (s : State) (moves : List Move) → IsOrigin s → LeadsHome (alone m) s moves
    → (old now : List Event) → now ≡ events_along (reverse moves) ++ old
    → LeadsOn m s start old now
home-leads m s moves origin home old now is h a =
    let (b, p) = at-path m s h old (reverse moves) home.0 a in
    let ends : State = state_from (alone m) s (reverse moves) in
    subst (λ z. IsAt m start h z × (pends m (z ++ h) ≡ pends m (old ++ h))) (sym is) (
      subst (λ t. IsAt m t h (events_along (reverse moves) ++ old))
          (home-start ends home.1 (path-first m s (reverse moves) home.0 ∙ origin.0)
          (none-along (alone m) refl s (reverse moves) home.0 origin.1)) b,
      p,
    )

-- the first map is in force in each state that was met, and no accent is pending
pub met-first : (e : Explored) → IsExplored e → (place : ℕ) (y : Entry) → slice_get e.met.entries place ≡ Some y
    → IsOrigin (state_of y.0)
met-first e x place y at = search (rules, reached-one, path-first, none-along)

-- ---- taps

-- a tap is taken
at-tapped : (m : MapValue) (s at : State) (k : ℕ) (h l : List Event) → AreTaken h l
    → Stands (alone m) (Release k ∷ Press k ∷ (l ++ h)) at → at ≡ s
    → IsAt m s h (Release k ∷ Press k ∷ l)
at-tapped m s at k h l taken x near = search (rules, press-presses)

-- a modifier that nobody held is let go again
let_go-again : (s : State) (i : Modifier) (k : ℕ) → s.holder i ≡ None
    → with_holder (with_holder s i (Some k)) i None ≡ s
let_go-again s i k free = search (rules, same_states, cases_Bool, same_mods)

-- a tap of a steady key keeps the state
pub steady-leads : (m : MapValue) (s : State) (k : ℕ) (l : List Event) → IsSteady (alone m) s k
    → Leads m s s l (Release k ∷ Press k ∷ l)
steady-leads m s k l steady h a = by (look_in u t k) refl
  where
    u : Under
    u = alone m

    t : State
    t = a.at

    g : List Event
    g = l ++ h

    here : IsSteady u t k
    here = subst (λ z. IsSteady u z k) (sym a.near) steady

    same : (c : Cell) → look_in u t k ≡ c → Exact (ReleasedKey k ∷ (resolve_press k c ∷ resolved (between m m) g)) t
        → IsAt m s h (Release k ∷ Press k ∷ l)
    same c seen exact =
        at-tapped m s t k h l a.taken (stands-tapped u g t k c here.0 a.stands seen exact) a.near

    by : (c : Cell) → look_in u t k ≡ c → IsAt m s h (Release k ∷ Press k ∷ l)
    by (Char c) seen = same (Char c) seen (exact-character (resolved (between m m) g) t k c a.stands.exact here.1)
    by (Act b) seen = elim (kind_of b) [
      | inl p ↦
          let i : Modifier = p.0 in
          let look : look_in u t k ≡ Act (act.Mod i) = seen ∙ ap (λ x. Act x) p.1 in
          let free : t.holder i ≡ None = here.2 i look in
          at-tapped m s (with_holder (with_holder t i (Some k)) i None) k h l a.taken
          (stands-from u g t (LetGo k i ∷ Hold k i ∷ []) a.stands
          (hold-self t i k, (((here.0, here.1, (look, refl)), free), tt)))
          (let_go-again t i k free ∙ a.near)
      | inr (inl p) ↦
          let look : look_in u t k ≡ Act (act.Lock p.0) = seen ∙ ap (λ x. Act x) p.1 in
          at-tapped m s t k h l a.taken
          (scroll-tapped u g t k here.0 a.stands here.1 (look ∙ ap (λ z. Act (act.Lock z)) (here.3 p.0 look))) a.near
      | inr (inr plain) ↦
          same (Act b) seen (exact-action (resolved (between m m) g) t k b a.stands.exact here.1 plain)
    ]

-- a tap of a dead key does, and leaves its accent pending
pub dead-leads : (m : MapValue) (s : State) (k accent : ℕ) (l : List Event) → k < 128 → IsIdle s k
    → look_in (alone m) s k ≡ Act (act.DeadKey accent)
    → LeadsComposing m accent s s l (Release k ∷ Press k ∷ l)
dead-leads m s k accent l lt idle seen h a =
    let here : IsIdle a.at k = subst (λ z. IsIdle z k) (sym a.near) idle in
    let look : look_in (alone m) a.at k ≡ Act (act.DeadKey accent) = ap (λ z. look_in (alone m) z k) a.near ∙ seen in (
      at-tapped m s a.at k h l a.taken
          (stands-tap (alone m) (l ++ h) a.at false (symbol.DeadKey accent) k a.stands
          (lt, here, look, (λ e. absurd (false≢true e)))) a.near,
      (λ none can. tap-pending m (l ++ h) a.at k accent a.stands here look can (sym (pending-is m (l ++ h)) ∙ none)),
    )

-- ---- one behind another

pub composing-leads : {m : MapValue} {accent : ℕ} {s t : State} {a b c d e : List Event} {r w : State}
    → LeadsOn m r s a b → LeadsComposing m accent s s b c → LeadsOn m s t c d → LeadsOn m t w d e
    → LeadsComposing m accent r w a e
composing-leads f g p q h a = search rules

-- what is aimed at behind no dead key needs no accent
pub sees-at : (e : Explored) (x : Sight) (m : MapValue) (s t : State) (old now : List Event) → IsDeadFor e x None
    → Leads m s t old now → LeadsToSee m x s t old now
sees-at e (sight.Pair accent c) m s t old now none f h a = absurd none
sees-at e (sight.Cell slot column) m s t old now none f h a = (f h a, (λ p can. tt))
sees-at e (sight.Locks slot caps num) m s t old now none f h a = (f h a, (λ p can. tt))

-- what is aimed at behind a dead key is a pair of its accent
pub sees-behind : (e : Explored) (x : Sight) (d : KeyAt) (m : MapValue) (s t : State) (old now : List Event)
    → IsDeadFor e x (Some d)
    → ((accent : ℕ) → IsTapAt e (symbol.DeadKey accent) d.place d.key → LeadsComposing m accent s t old now)
    → LeadsToSee m x s t old now
sees-behind e (sight.Pair accent c) d m s t old now dead f h a =
    let b = f accent dead h a in
    (b.0, (λ none (path, made, (later, before, is, (can, offers)), sees). b.1 none can))
sees-behind e (sight.Cell slot column) d m s t old now none f h a = absurd none
sees-behind e (sight.Locks slot caps num) d m s t old now none f h a = absurd none

pub dead-met : (e : Explored) (x : Sight) (d : KeyAt) → IsDeadFor e x (Some d) → IsMetAt e d.place
dead-met e (sight.Pair accent c) d (y, at, has, tapped) = (y, at, has)
dead-met e (sight.Cell slot column) d none = absurd none
dead-met e (sight.Locks slot caps num) d none = absurd none
