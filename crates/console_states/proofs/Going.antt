-- What a press sees where a path leads from the state of a console.
use Rattle.console_states.proofs.Common.{◌≡◌, ℕ, true, List, [], ◌∷◌, ◌++◌, Some, None, refl, ap, subst, sym, ◌∙◌}
use Rattle.console_states.proofs.Common.{append_assoc, false≢true, MapValue, ResolvedEvent, pending, usable, between}
use Rattle.console_states.proofs.Common.{resolved, is_second_in_force, accent_pending_after, alone, State, IsIdle}
use Rattle.console_states.proofs.Common.{look_in, IsMove, events_of_move, events_along, state_from, IsPathFrom, SeesBy}
use Rattle.console_states.proofs.Common.{SeesNext, IsPendingFor, selection_of, Stands, Act, Event, Press, Release, Move}
use Rattle.console_states.proofs.Common.{Hold, Turn, Tap, LetGo, Exchange, none-some, Sight, rules, one_map}
use Rattle.console_states.proofs.Common.{pending-action}
use Rattle.console_states.proofs.Common.{pending-release, resolved-more}
use Rattle.console_states.proofs.Standing.{stands-from, idle-none, pressed-look}
use Rattle.console_states.proofs.Following.{follows-selection}
use Rattle.keymap_core.specs.declared.action.Action.TheVariants as act
use Rattle.console_states.specs.declared.selection.Sight.TheVariants as sight

-- a move keeps the accent that is pending
pub pending-move : (m : MapValue) (h : List Event) (s : State) (move : Move) → IsMove (alone m) s move
    → Stands (alone m) h s
    → pending m (resolved (between m m) (events_of_move move ++ h)) ≡ pending m (resolved (between m m) h)
pending-move m h s (Hold k i) ((lt, idle, (seen, may)), free) x =
    let r : List ResolvedEvent = resolved (between m m) h in
    rw (pressed-look (alone m) h s k (Act (act.Mod i)) x.exact.follows x.second seen)
    (rw (pending-action m k (act.Mod i) r, idle-none r s k x.exact idle) refl)
pending-move m h s (Turn k l) ((lt, idle, (seen, may)), other) x =
    let r : List ResolvedEvent = resolved (between m m) h in
    rw (resolved-more (between m m) (Press k ∷ h) (Release k))
    (pending-release m k (resolved (between m m) (Press k ∷ h))
    ∙ rw (pressed-look (alone m) h s k (Act (act.Lock l)) x.exact.follows x.second seen)
    (rw (pending-action m k (act.Lock l) r, idle-none r s k x.exact idle) refl))
pending-move m h s (Tap k) is x = absurd (none-some is.0 is.1)
pending-move m h s (LetGo k i) holds x =
    ap (λ z. pending m z) (resolved-more (between m m) h (Release k)) ∙ pending-release m k (resolved (between m m) h)
pending-move m h s Exchange (free, loads) x = absurd (false≢true loads)

-- a path keeps the accent that is pending
pub pending-along : (m : MapValue) (h : List Event) (s : State) (path : List Move) → Stands (alone m) h s
    → IsPathFrom (alone m) s path
    → pending m (resolved (between m m) (events_along path ++ h)) ≡ pending m (resolved (between m m) h)
pending-along m h s [] x is = refl
pending-along m h s (move ∷ path) x is =
    ap (λ g. pending m (resolved (between m m) g)) (append_assoc (events_of_move move) (events_along path) h)
    ∙ pending-move m (events_along path ++ h) (state_from (alone m) s path) move is.0
    (stands-from (alone m) h s path x is.1)
    ∙ pending-along m h s path x is.1

-- the accent of the one map is pending, whichever is in force
pub pending-is : (m : MapValue) (h : List Event)
    → accent_pending_after (between m m) h ≡ pending m (resolved (between m m) h)
pending-is m h = ap (λ n. pending n (resolved (between m m) h)) (one_map m (is_second_in_force h))

-- At the end of a path a press of the key sees what the selection of the state there picks, and a pair if its accent
-- was pending before.
pub going-sees : (m : MapValue) (h : List Event) (s : State) (path : List Move) (k : ℕ) (x : Sight)
    → Stands (alone m) h s → IsPathFrom (alone m) s path
    → SeesBy m (selection_of (state_from (alone m) s path)) k x → IsPendingFor m h x
    → SeesNext m (events_along path ++ h) k x
going-sees m h s path k x stands is sees pending = (
  subst (λ y. SeesBy m y k x)
      (sym (follows-selection (resolved (between m m) (events_along path ++ h)) (state_from (alone m) s path)
      (stands-from (alone m) h s path stands is).exact.follows))
      sees,
  still x pending,
)
  where
    still : (x : Sight) → IsPendingFor m h x → IsPendingFor m (events_along path ++ h) x
    still (sight.Pair accent c) e = search (rules, pending-is, pending-along, stands)
    still (sight.Cell slot column) e = tt
    still (sight.Locks slot caps num) e = tt

-- A tap of an idle key that looks up the dead key of a usable accent leaves it pending, where none was.
pub tap-pending : (m : MapValue) (h : List Event) (s : State) (k accent : ℕ) → Stands (alone m) h s → IsIdle s k
    → look_in (alone m) s k ≡ Act (act.DeadKey accent) → usable m accent ≡ true
    → pending m (resolved (between m m) h) ≡ None
    → accent_pending_after (between m m) (Release k ∷ Press k ∷ h) ≡ Some accent
tap-pending m h s k accent x idle seen is none =
    let r : List ResolvedEvent = resolved (between m m) h in
    pending-is m (Release k ∷ Press k ∷ h)
    ∙ rw (resolved-more (between m m) (Press k ∷ h) (Release k))
    (pending-release m k (resolved (between m m) (Press k ∷ h))
    ∙ rw (pressed-look (alone m) h s k (Act (act.DeadKey accent)) x.exact.follows x.second seen)
    (rw (pending-action m k (act.DeadKey accent) r, none, idle-none r s k x.exact idle, is) refl))
