-- What can be seen is seen by a press after a clean list of presses and releases.
use Rattle.console_states.proofs.Common.{Tap, ◌≡◌, ◌<◌, ℕ, true, List, [], ◌∷◌, ◌++◌, All, Some, None, refl, ap, subst}
use Rattle.console_states.proofs.Common.{◌∙◌}
use Rattle.console_states.proofs.Common.{append_assoc, false≢true, All-nil, All-cons, none-some, MapValue, Modifier}
use Rattle.console_states.proofs.Common.{Act, Char, Event, Press, Release, Move, Hold, Turn, LetGo, Exchange, Sight}
use Rattle.console_states.proofs.Common.{between, resolved, pressed, HasNoLoads, IsNoLoad, Under, alone, State, start}
use Rattle.console_states.proofs.Common.{IsIdle, IsMove, IsPath, IsPathFrom, look_in, state_after, state_from}
use Rattle.console_states.proofs.Common.{events_along, events_of_move, pending, remembered, look_after, IsAdmitted}
use Rattle.console_states.proofs.Common.{IsClean, IsPendingFor, SeesBy, SeesNext, selection_of, ReleasesPressedKeys}
use Rattle.console_states.proofs.Common.{Stands, rules, pending-start, resolved-start}
use Rattle.console_states.specs.Sights.{ReachableIsSeen}
use Rattle.console_states.specs.Sticking.{IsPressOrRelease}
use Rattle.console_states.proofs.Paths.{path-split}
use Rattle.console_states.proofs.Going.{going-sees, pending-along, tap-pending}
use Rattle.console_states.proofs.Scripts.{holder-pressed}
use Rattle.console_states.proofs.Standing.{idle-none, stands-from, stands-start}
use Rattle.console_states.proofs.Standing.{dead-tapped}
use Rattle.console_states.proofs.Visits.{press-presses}
use Rattle.keymap_core.specs.declared.action.Action.TheVariants as act
use Rattle.console_states.specs.declared.selection.Sight.TheVariants as sight

-- presses, and releases of pressed keys, of which no press forgets that its key holds a modifier
pub record IsPlain (m : MapValue) (h : List Event) : Type 0 where
  pub sent : All IsPressOrRelease h
  pub loads : HasNoLoads h
  pub releases : ReleasesPressedKeys h
  pub clean : IsClean (between m m) h

plain-start : (m : MapValue) → IsPlain m []
plain-start m = record {
  sent = All-nil IsPressOrRelease;
  loads = All-nil IsNoLoad;
  releases = tt;
  clean = λ later before k i c at held seen. nothing later before k at;
}
  where
    nothing : (later before : List Event) (k : ℕ) → [] ≡ later ++ Press k ∷ before → ⊥
    nothing [] before k e = let f : [] ≡ Press k ∷ before = e in cc
    nothing (x ∷ later) before k e = let f : [] ≡ x ∷ (later ++ Press k ∷ before) = e in cc

tail-same : (a b : Event) (g h : List Event) → a ∷ g ≡ b ∷ h → g ≡ h
tail-same a b g h e = cc

-- a further event that is no press of a key that remembers a modifier
plain-more : (m : MapValue) (h : List Event) (e : Event) → IsPressOrRelease e → IsNoLoad e
    → ReleasesPressedKeys (e ∷ h)
    → ((k : ℕ) (i : Modifier) → e ≡ Press k → remembered k (resolved (between m m) h) ≡ Some (act.Mod i) → ⊥)
    → IsPlain m h → IsPlain m (e ∷ h)
plain-more m h e sent no_load releases free x = record {
  sent = All-cons IsPressOrRelease e h sent x.sent;
  loads = All-cons IsNoLoad e h no_load x.loads;
  releases = releases;
  clean = λ later before j i c at held seen. by later before j i at held seen;
}
  where
    by : (later before : List Event) (j : ℕ) (i : Modifier) → e ∷ h ≡ later ++ Press j ∷ before
        → remembered j (resolved (between m m) before) ≡ Some (act.Mod i)
        → {c : ℕ} → look_after (between m m) j before ≡ Char c → ⊥
    by [] before j i at held seen = search (rules, tail-same)
    by (d ∷ later) before j i at held seen = search (rules, tail-same)

-- a press of a key that remembers nothing
plain-press : (m : MapValue) (h : List Event) (k : ℕ) → remembered k (resolved (between m m) h) ≡ None → IsPlain m h
    → IsPlain m (Press k ∷ h)
plain-press m h k none x =
    plain-more m h (Press k) tt refl (tt, x.releases)
    (λ j i e held. let same : k ≡ j = cc in none-some (act.Mod i) (cc (none, same, held))) x

plain-release : (m : MapValue) (h : List Event) (k : ℕ) → pressed k h ≡ true → IsPlain m h → IsPlain m (Release k ∷ h)
plain-release m h k down x =
    plain-more m h (Release k) tt refl (down, x.releases)
    (λ j i e held. let f : Release k ≡ Press j = e in cc) x

-- a press of an idle key, where the console stands in the state
plain-idle : (m : MapValue) (h : List Event) (s : State) (k : ℕ) → Stands (alone m) h s → IsIdle s k → IsPlain m h
    → IsPlain m (Press k ∷ h)
plain-idle m h s k x idle plain = plain-press m h k (idle-none (resolved (between m m) h) s k x.exact idle) plain

plain-move : (m : MapValue) (h : List Event) (s : State) (move : Move) → Stands (alone m) h s → IsMove (alone m) s move
    → IsPlain m h → IsPlain m (events_of_move move ++ h)
plain-move m h s (Hold k i) x is plain = plain-idle m h s k x is.0.1 plain
plain-move m h s (Turn k l) x is plain = search (rules, plain-release, press-presses, plain-idle)
plain-move m h s (Tap k) x is plain = absurd (none-some is.0 is.1)
plain-move m h s (LetGo k i) x is plain = plain-release m h k (holder-pressed (alone m) h s i k x is) plain
plain-move m h s Exchange x is plain = absurd (false≢true is.1)

plain-along : (m : MapValue) (h : List Event) (s : State) (path : List Move) → Stands (alone m) h s
    → IsPathFrom (alone m) s path → IsPlain m h → IsPlain m (events_along path ++ h)
plain-along m h s [] x is plain = plain
plain-along m h s (move ∷ path) x is plain =
    search (rules, append_assoc, plain-move, stands-from, plain-along m h s path x is.1 plain)

-- After the list the console stands in the state; the list is plain.
pub record IsShort (m : MapValue) (h : List Event) (s : State) : Type 0 where
  pub stands : Stands (alone m) h s
  pub plain : IsPlain m h

pub short-start : (m : MapValue) → IsShort m [] start
short-start m = search (rules, stands-start, plain-start)

pub short-along : (m : MapValue) (h : List Event) (s : State) (path : List Move) → IsShort m h s
    → IsPathFrom (alone m) s path → IsShort m (events_along path ++ h) (state_from (alone m) s path)
short-along m h s path x is = search (rules, stands-from, plain-along)

pub short-tap : (m : MapValue) (h : List Event) (s : State) (k accent : ℕ) → IsShort m h s → k < 128 → IsIdle s k
    → look_in (alone m) s k ≡ Act (act.DeadKey accent) → IsShort m (Release k ∷ Press k ∷ h) s
short-tap m h s k accent x lt idle seen =
    search (rules, dead-tapped, plain-release, press-presses, plain-idle)

pub short-admitted : (m : MapValue) (h : List Event) (s : State) → IsShort m h s
    → All IsPressOrRelease h × ReleasesPressedKeys h × IsAdmitted m true h
short-admitted m h s x =
    (x.plain.sent, x.plain.releases, (x.stands.keys, x.plain.loads, (λ e. x.plain.clean)))

-- what needs no accent
short-sees : (m : MapValue) (path : List Move) → IsPath (alone m) path → (k : ℕ) (x : Sight) → k < 128
    → SeesBy m (selection_of (state_after (alone m) path)) k x → IsPendingFor m [] x
    → (h : List Event) × (n : ℕ) × All IsPressOrRelease h × ReleasesPressedKeys h × IsAdmitted m true h
    × (n < 128) × SeesNext m h n x
short-sees m path is k x lt sees still =
    let short : IsShort m (events_along path ++ []) (state_after (alone m) path) =
    short-along m [] start path (short-start m) is in
    let (sent, releases, admitted) = short-admitted m (events_along path ++ []) (state_after (alone m) path) short in (
      events_along path ++ [],
      k,
      sent,
      releases,
      admitted,
      lt,
      going-sees m [] start path k x (stands-start (alone m)) is sees still,
    )

pub reachable_is_seen : ReachableIsSeen
reachable_is_seen m (sight.Cell slot column) (path, is, x, (k, lt, sees)) =
    short-sees m path is k (sight.Cell slot column) lt sees tt
reachable_is_seen m (sight.Locks slot caps num) (path, is, x, (k, lt, sees)) =
    short-sees m path is k (sight.Locks slot caps num) lt sees tt
reachable_is_seen m (sight.Pair accent c)
    (path, is, (later, before, at, (can, (d, key, (idle, (seen, may))))), (k, lt, sees)) =
    let u : Under = alone m in
    let s : State = state_after u before in
    let parts = path-split u start later before (subst (λ p. IsPath u p) at is) in
    let h : List Event = events_along before ++ [] in
    let tapped : List Event = Release d ∷ Press d ∷ h in
    let first : IsShort m h s = short-along m [] start before (short-start m) parts.0 in
    let next : IsShort m tapped s = short-tap m h s d accent first key idle seen in
    let last : IsShort m (events_along later ++ tapped) (state_from u s later) =
    short-along m tapped s later next parts.1 in
    let none : pending m (resolved (between m m) h) ≡ None =
    cc (pending-along m [] start before (stands-start u) parts.0, resolved-start (between m m), pending-start m) in
    let leads : state_after u path ≡ state_from u s later = ap (λ p. state_after u p) at ∙ parts.2 in
    let (sent, releases, admitted) =
    short-admitted m (events_along later ++ tapped) (state_from u s later) last in (
      events_along later ++ tapped,
      k,
      sent,
      releases,
      admitted,
      lt,
      going-sees m tapped s later k (sight.Pair accent c) next.stands parts.1
          (subst (λ t. SeesBy m (selection_of t) k (sight.Pair accent c)) leads sees)
          (tap-pending m h s d accent first.stands idle seen can none),
    )
