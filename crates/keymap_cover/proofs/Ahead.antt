-- Behind a list that is spoken of a console stands where moves lead from the start, so moves from there lead to nothing
-- that can't be seen.
use Rattle.std.proofs.Common.{rules}
use Rattle.keymap_cover.proofs.Common.{◌≡◌, Bool, false, List, ◌++◌, ap, refl, subst, sym, ◌∙◌, reverse}
use Rattle.keymap_cover.proofs.Common.{MapValue, Event, Sight, IsPair, IsReachable, alone, between, resolved}
use Rattle.keymap_core.specs.declared.action.Modifier.{Modifier}
use Rattle.console_core.specs.History.{is_on_after}
use Rattle.console_states.specs.declared.held.Move.{Move}
use Rattle.console_states.specs.declared.selection.Sight.TheVariants as sight
use Rattle.console_states.specs.Inner.Standing.{Follows}
use Rattle.console_states.specs.Moves.{IsPathFrom, State, start, state_from}
use Rattle.console_states.specs.Sights.{CanPend, IsAdmitted, SeesBy, selection_of}
use Rattle.console_states.specs.Sticking.{NeverForgets}
use Rattle.console_states.proofs.Shared.{each-lock, path-first, path-none, path-off, same_states, stands-in}
use Rattle.keymap_core.specs.declared.action.Lock.TheVariants.{Scroll}
use Rattle.console_scripts.specs.Visiting.{SeesFrom, resting_after}
use Rattle.console_scripts.proofs.Shared.{path-append}
use Rattle.keymap_cover.specs.Covering.{IsAtRest, NothingIsAhead, history}
use Rattle.keymap_cover.proofs.Scripts.{never-forgets, not-some}
use Rattle.keymap_cover.proofs.Showing.{events-loads}

-- at rest a console stands in the free state with the locks that are on, but for the scroll lock
at-resting : (m : MapValue) (h : List Event) (s : State) → Follows (resolved (between m m) h) s
    → ((i : Modifier) → is_on_after (between m m) i h ≡ false) → s.is_second ≡ false → s.is_locked Scroll ≡ false
    → s.is_pending ≡ false → resting_after m h ≡ s
at-resting m h s f off first scroll none = search (rules, same_states, not-some, each-lock)

-- a cell or a lock setting needs no accent
needs-none : (m : MapValue) (path : List Move) (x : Sight) → (IsPair x → ⊥) → CanPend m path x
needs-none m path (sight.Cell slot column) key = tt
needs-none m path (sight.Locks slot caps num) key = tt
needs-none m path (sight.Pair accent c) key = absurd (key tt)

-- what can be seen from the end can be seen
seen-from : (m : MapValue) (forgets : Bool) (h : List Event) (x : Sight) → (forgets ≡ false → NeverForgets (alone m))
    → IsAdmitted m forgets h → IsAtRest m h → (IsPair x → ⊥) → SeesFrom m (resting_after m h) x → IsReachable m x
seen-from m forgets h x never admitted rest key (path, is, (k, lt, sees)) =
    let u = alone m in
    let (s, (way, made, there), f, second) = stands-in m forgets h never admitted in
    let rests : resting_after m h ≡ s =
    at-resting m h s f rest.1 (ap (λ (z : State). z.is_second) (sym there) ∙ path-first m start way made)
    (ap (λ (z : State). z.is_locked Scroll) (sym there) ∙ path-off m start way made refl)
    (ap (λ (z : State). z.is_pending) (sym there) ∙ path-none m start way made refl) in
    let begins = rests ∙ sym there in
    let (whole, leads) = path-append u start way path made (subst (λ z. IsPathFrom u z path) begins is) in
    let same = leads ∙ ap (λ z. state_from u z path) (sym begins) in (
      path ++ way,
      whole,
      needs-none m (path ++ way) x key,
      (k, lt, subst (λ z. SeesBy m z k x) (sym (ap (λ z. selection_of z) same)) sees),
    )

pub nothing_is_ahead : NothingIsAhead
nothing_is_ahead m c covers clean x told key unseen from =
    covers.onward x told key
    (seen-from m c.sights.forgets (history c) x (never-forgets m c.sights covers.sights)
    (covers.keys, events-loads (reverse c.events.items), clean) covers.rest key from)
    unseen from
