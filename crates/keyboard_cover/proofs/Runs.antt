-- What a further event does to a run, and when a run is at rest.
use Rattle.std.proofs.Common.{arith, ◌≡◌, ℕ, ◌<◌, Bool, true, false, List, [], ◌∷◌, ◌++◌, Option, None, refl, ap}
use Rattle.std.proofs.Common.{sym}
use Rattle.std.proofs.Common.{◌∙◌, length, reverse, if◌then◌else◌, ◌==◌, slice_set, slice_index_or, rules}
use Rattle.std.proofs.lemmas.List.{reverse-append}
use Rattle.std.proofs.lemmas.List.Elements.{All-cons}
use Rattle.std.proofs.lemmas.Bool.{true≢false}
use Rattle.std.specs.Option.{is_some}
use Rattle.keymap_core.specs.Maps.{MapValue}
use Rattle.keymap_core.specs.Numbers.{key_count}
use Rattle.keymap_core.specs.declared.action.Lock.{Lock}
use Rattle.keymap_core.specs.declared.action.Modifier.{Modifier}
use Rattle.keymap_core.specs.declared.entry.Cell.{Cell}
use Rattle.console_core.specs.declared.event.Event.{Event}
use Rattle.console_core.specs.declared.event.Event.TheVariants as event
use Rattle.console_core.specs.History.{Maps, between, pressed, resolved, IsQuiet, is_on_after, accent_pending_after}
use Rattle.console_core.specs.History.{HasKeys}
use Rattle.console_core.specs.History.{HasNoLoads, IsNoLoad, is_any_on_after}
use Rattle.console_core.proofs.Shared.{pressed-press, pressed-release}
use Rattle.console_core.proofs.Shared.{no_loads-first, remembered-pressed, held-start, locked-start}
use Rattle.console_core.proofs.Shared.{remembered-start, pending-start, resolved-start}
use Rattle.console_core.specs.Agrees.{Kept, StandsAt}
use Rattle.console_core.specs.Resolved.{held, locked, pending, remembered}
use Rattle.keymap_core.proofs.Shared.{none_unless}
use Rattle.keymap_core.specs.declared.action.Holding.{Holding}
use Rattle.keymap_core.specs.declared.action.Holding.TheVariants as holding
use Rattle.keymap_core.proofs.Shared.{no-modifier}
use Rattle.keymap_cover.specs.declared.script_event.ScriptEvent.{ScriptEvent}
use Rattle.keymap_cover.specs.declared.script_event.ScriptEvent.TheVariants as script_event
use Rattle.keymap_cover.specs.ScriptEvents.{event_of, events_of, is_down, CanFollow}
use Rattle.keymap_cover.proofs.Shared.{set-cases}
use Rattle.console_states.specs.Sights.{LooksAreSelected, look_selected, selection_with, selection_after}
use Rattle.console_core.specs.History.{is_locked_after}
use Rattle.console_core.specs.Reading.{look_after}
use Rattle.console_states.specs.declared.allowed.Presses.{Presses}
use Rattle.console_states.specs.declared.selection.Selection.{Selection}
use Rattle.keyboard_cover.specs.Allowed.{may_press, may_press_after, must_wait}
use Rattle.keyboard_cover.specs.Runs.{IsRest, IsRun, IsUnlocked, Standing, run_events}

-- a further event stands in front where the newest stands first
pub newest : (events : List ScriptEvent) (x : ScriptEvent) → reverse (events ++ x ∷ []) ≡ x ∷ reverse events
newest events x = reverse-append events (x ∷ [])

pub run-more : (events : List ScriptEvent) (x : ScriptEvent)
    → run_events (events ++ x ∷ []) ≡ event_of x ∷ run_events events
run-more events x = ap events_of (newest events x)

-- which keys are down behind one more
down-press : (x : ScriptEvent) (k j : ℕ) (before : List ScriptEvent) → event_of x ≡ event.Press k
    → is_down j (x ∷ before) ≡ (if k == j then true else is_down j before)
down-press (script_event.Down i) k j before e = cc
down-press (script_event.Repeat i) k j before e = cc
down-press (script_event.Up i) k j before e = cc
down-press script_event.Reset k j before e = cc

-- a press that may be made
pub press-run : {T : Type 0} (stands : Standing T) (m : MapValue) (a : Presses) (old now : T) (down : List Bool)
    (events more : List ScriptEvent) (k place : ℕ) (x : ScriptEvent)
    → place ≡ k → more ≡ events ++ x ∷ [] → IsRun stands m a old down events → k < length down → k < key_count
    → event_of x ≡ event.Press k → CanFollow (reverse events) x
    → ((h : List Event) → IsRest m h → may_press_after a m (run_events events ++ h) k ≡ true)
    → ((ms : Maps) (h : List Event) → stands old ms h → stands now ms (event.Press k ∷ h))
    → IsRun stands m a now (slice_set down place true) more
press-run stands m a old now down events more k place x at grown t lt below is can may next =
    search (rules, set-cases, pressed-press, down-press, newest, run-more)

-- a release of a key that is pressed
pub up-run : {T : Type 0} (stands : Standing T) (m : MapValue) (a : Presses) (old now : T) (down : List Bool)
    (events more : List ScriptEvent) (k place : ℕ)
    → place ≡ k → more ≡ events ++ script_event.Up k ∷ [] → IsRun stands m a old down events → k < length down
    → k < key_count → slice_index_or down k false ≡ true → must_wait (λ j. slice_index_or down j false) k ≡ false
    → ((ms : Maps) (h : List Event) → stands old ms h → stands now ms (event.Release k ∷ h))
    → IsRun stands m a now (slice_set down place false) more
up-run stands m a old now down events more k place at grown t lt below is wait next =
    search (rules, set-cases, pressed-release, newest, run-more)

-- what may be pressed depends on what a console shows
pub same-press : (p : Presses) (y y' : Selection) (down down' : ℕ → Bool) (pending pending' : Option ℕ) (k : ℕ)
    (x x' : Cell) → y ≡ y' → ((j : ℕ) → j < key_count → down j ≡ down' j) → pending ≡ pending' → x ≡ x'
    → may_press p y down (is_some pending) k x ≡ may_press p y' down' (is_some pending') k x'
unfolding may_press
same-press p y y' down down' pending pending' k x x' e f g d =
    let a = f 104 (omega arith) in
    let b = f 56 (omega arith) in
    let c = f 93 (omega arith) in
    let l = f 29 (omega arith) in
    let r = f 90 (omega arith) in
    rw (e, g, d, a, b, c, l, r) refl

-- the events of a run have no loads
no-loads : (events : List ScriptEvent) (h : List Event) → HasNoLoads h → HasNoLoads (events_of events ++ h)
no-loads [] h none = none
no-loads (script_event.Down k ∷ more) h none = All-cons IsNoLoad _ _ refl (no-loads more h none)
no-loads (script_event.Repeat k ∷ more) h none = All-cons IsNoLoad _ _ refl (no-loads more h none)
no-loads (script_event.Up k ∷ more) h none = All-cons IsNoLoad _ _ refl (no-loads more h none)
no-loads (script_event.Reset ∷ more) h none = All-cons IsNoLoad _ _ refl (no-loads more h none)

-- a key that isn't pressed remembers nothing
remembered-none : (m : MapValue) (h : List Event) (k : ℕ) → pressed k h ≡ false
    → remembered k (resolved (between m m) h) ≡ None
remembered-none m h k up = search (rules, none_unless, true≢false, remembered-pressed)

-- where no key is pressed, no modifier or lock is on, no lock is down and no accent pending there is rest
pub rests : (m : MapValue) (events : List ScriptEvent) (h : List Event) → IsRest m h
    → HasKeys (run_events events ++ h) → IsQuiet (run_events events ++ h)
    → is_any_on_after (between m m) (run_events events ++ h) ≡ false
    → ((l : Lock) → IsUnlocked m l (run_events events ++ h))
    → accent_pending_after (between m m) (run_events events ++ h) ≡ None
    → IsRest m (run_events events ++ h)
rests m events h rest keys quiet off locks none =
    search (rules, no-loads, remembered-none, no-modifier)

-- a console that keeps nothing stands behind each rest
pub stands-rest : (m : MapValue) (k : Kept) (h : List Event) → StandsAt (between m m) [] k → IsRest m h
    → StandsAt (between m m) h k
stands-rest m k h at rest = record {
  map_in_force = at.map_in_force ∙ sym (no_loads-first h rest.loads);
  agrees = record {
    marks = λ a. marks a;
    locks = λ l. at.agrees.locks l ∙ ap (locked l) none ∙ locked-start l ∙ sym (rest.locked l);
    memories = λ j lt.
        at.agrees.memories j lt ∙ ap (remembered j) none ∙ remembered-start j ∙ sym (rest.remembered j lt);
    pending = at.agrees.pending ∙ ap (pending m) none ∙ pending-start m ∙ sym rest.pending;
  };
}
  where
    none : resolved (between m m) [] ≡ []
    none = resolved-start (between m m)

    marks : (a : Holding) → k.mark a ≡ held a (resolved (between m m) h)
    marks (holding.Mod i) =
        at.agrees.marks (holding.Mod i) ∙ ap (held (holding.Mod i)) none ∙ held-start (holding.Mod i) ∙ sym (rest.on i)
    marks (holding.Lock l) =
        at.agrees.marks (holding.Lock l) ∙ ap (held (holding.Lock l)) none ∙ held-start (holding.Lock l)
        ∙ sym (rest.down l)

-- no events
pub new-run : {T : Type 0} (stands : Standing T) (m : MapValue) (a : Presses) (now : T) (down : List Bool)
    (events : List ScriptEvent) → events ≡ []
    → ((k : ℕ) → k < key_count → slice_index_or down k false ≡ false)
    → ((h : List Event) → IsRest m h → stands now (between m m) h)
    → IsRun stands m a now down events
new-run stands m a now down events none off there = search rules

selection-stands : (on : Modifier → Bool) (off : Lock → Bool) (m : MapValue) (h : List Event)
    → ((i : Modifier) → on i ≡ is_on_after (between m m) i h)
    → ((l : Lock) → off l ≡ is_locked_after (between m m) l h)
    → selection_with on off ≡ selection_after m h
selection-stands on off m h e f = grind (arith)

-- what a key looks up, by what a console shows
same-look : LooksAreSelected → (m : MapValue) (on : Modifier → Bool) (off : Lock → Bool) (h : List Event) (k : ℕ)
    → ((i : Modifier) → on i ≡ is_on_after (between m m) i h)
    → ((l : Lock) → off l ≡ is_locked_after (between m m) l h)
    → look_selected m (selection_with on off) k ≡ look_after (between m m) k h
same-look looks m on off h k e f =
    ap (λ y. look_selected m y k) (selection-stands on off m h e f) ∙ sym (looks m h k)

-- a press may be made behind the run where it may by what the console shows
pub may-after : {T : Type 0} (looks : LooksAreSelected) (stands : Standing T) (m : MapValue) (a : Presses) (now : T)
    (down : List Bool) (events : List ScriptEvent) (on : Modifier → Bool) (off : Lock → Bool) (pending : Option ℕ)
    (k : ℕ) (x : Cell)
    (h : List Event) → IsRun stands m a now down events → IsRest m h
    → ((i : Modifier) → on i ≡ is_on_after (between m m) i (run_events events ++ h))
    → ((l : Lock) → off l ≡ is_locked_after (between m m) l (run_events events ++ h))
    → pending ≡ accent_pending_after (between m m) (run_events events ++ h)
    → x ≡ look_selected m (selection_with on off) k
    → may_press a (selection_with on off) (λ j. slice_index_or down j false) (is_some pending) k x
    ≡ may_press_after a m (run_events events ++ h) k
may-after looks stands m a now down events on off pending k x h t rest e f p at =
    search (rules, same-press, selection-stands, same-look)
