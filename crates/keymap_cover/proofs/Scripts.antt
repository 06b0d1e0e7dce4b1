-- What a further event does to a script.
use Rattle.std.proofs.Common.{rules}
use Rattle.std.proofs.Common.{arith}
use Rattle.keymap_cover.proofs.Common.{◌≡◌, ℕ, ◌<◌, ◌⊎◌, inl, inr, Bool, true, false, List, [], ◌∷◌, ◌++◌, Option, None}
use Rattle.keymap_cover.proofs.Common.{Some, refl, ap, subst, sym, ◌∙◌, length, reverse, if◌then◌else◌, not, ◌==◌}
use Rattle.keymap_cover.proofs.Common.{slice_set, slice_index_or, replicate, All-nil, All-cons, and-false, true≢false}
use Rattle.keymap_cover.proofs.Common.{reverse-append, MapValue, Event, Sight, between, resolved, SeesAlong}
use Rattle.keymap_cover.proofs.Common.{ScriptEvent}
use Rattle.keymap_cover.proofs.Common.{event_of, events_of, is_down, alone, AreSightsOf}
use Rattle.keymap_cover.proofs.Common.{AddsPair, IsScript, AreUp}
use Rattle.std.specs.Option.{is_some}
use Rattle.std.proofs.lemmas.List.{get_or-replicate}
use Rattle.keymap_core.specs.declared.action.Modifier.{Modifier}
use Rattle.keymap_core.specs.declared.action.Lock.{Lock}
use Rattle.keymap_core.specs.declared.entry.Cell.TheVariants.{Char}
use Rattle.keymap_core.specs.Numbers.{key_count}
use Rattle.console_states.specs.declared.selection.Selection.{Selection}
use Rattle.console_core.specs.Resolved.{held, dead_keys_taken, pending_by_dead_keys}
use Rattle.console_core.specs.History.{pressed, is_on_after, HasKey, is_locked_after, accent_pending_after}
use Rattle.console_core.specs.History.{is_any_on_after}
use Rattle.console_core.proofs.Shared.{pressed-press, pressed-release, pressed-reset, pressed-start}
use Rattle.keymap_core.proofs.Shared.{no-modifier}
use Rattle.console_states.specs.Sights.{selection_with, slot_in, column_in, look_selected, selection_after, SeesNext}
use Rattle.keymap_cover.specs.ScriptEvents.{CanFollow, ArePossible}
use Rattle.console_states.specs.declared.sights.Sights.{Sights}
use Rattle.console_states.specs.Sticking.{NeverForgets}
use Rattle.keymap_cover.specs.Covering.{IsAtRest}
use Rattle.keymap_cover.proofs.Marking.{set-cases}
use Rattle.keymap_cover.specs.Inner.Scripts.{IsWith, AddsSights}
use Rattle.keymap_cover.specs.SeenSights.{Gains, SeesWith}
use Rattle.keymap_core.specs.declared.action.Holding.TheVariants as holding
use Rattle.console_core.specs.declared.event.Event.TheVariants as event
use Rattle.console_states.specs.declared.selection.Sight.TheVariants as sight
use Rattle.keymap_cover.specs.declared.script_event.ScriptEvent.TheVariants as script_event

-- the pair of a press was added
pub pair-added : (m : MapValue) (y : Selection) (k accent c : ℕ) (old now : Sight → Bool) → look_selected m y k ≡ Char c
    → IsWith (sight.Pair accent c) old now → AddsPair m y k (Some accent) old now
pair-added m y k accent c old now seen w x = grind (arith)

-- where there is none, nothing was
pub pair-not : (m : MapValue) (y : Selection) (k : ℕ) (pending : Option ℕ) (old : Sight → Bool)
    → ((i c : ℕ) → pending ≡ Some i → look_selected m y k ≡ Char c → ⊥) → AddsPair m y k pending old old
pair-not m y k pending old not x = grind (arith)

-- the selection of a console that stands at the list
selection-stands : (on : Modifier → Bool) (off : Lock → Bool) (m : MapValue) (h : List Event)
    → ((i : Modifier) → on i ≡ is_on_after (between m m) i h)
    → ((l : Lock) → off l ≡ is_locked_after (between m m) l h)
    → selection_with on off ≡ selection_after m h
selection-stands on off m h e f = grind (arith)

-- what a press sees was added
pub press-added : (m : MapValue) (k slot column : ℕ) (pending : Option ℕ) (y : Selection) (old a b now : Sight → Bool)
    → slot ≡ slot_in y k → column ≡ column_in m y k
    → IsWith (sight.Cell slot column) old a → IsWith (sight.Locks slot y.caps y.num) a b
    → AddsPair m y k pending b now → Gains (SeesWith m y k pending) old now
press-added m k slot column pending y old a b now s d v w pair (sight.Cell i c) = grind (arith)
press-added m k slot column pending y old a b now s d v w pair (sight.Locks i e f) = grind (arith)
press-added m k slot column pending y old a b now s d v w pair (sight.Pair i c) = grind (arith)

-- what a press sees, by what a console shows, was added
pub shown-added : (m : MapValue) (h : List Event) (k : ℕ) (pending : Option ℕ) (y : Selection) (old now : Sight → Bool)
    (on : Modifier → Bool) (off : Lock → Bool)
    → y ≡ selection_with on off → ((i : Modifier) → on i ≡ is_on_after (between m m) i h)
    → ((l : Lock) → off l ≡ is_locked_after (between m m) l h) → accent_pending_after (between m m) h ≡ pending
    → Gains (SeesWith m y k pending) old now → AddsSights m h k old now
shown-added m h k pending y old now on off is_on e f is gains x = search (rules, selection-stands)

-- what is seen along one more event
sees-old : (m : MapValue) (e : Event) (h : List Event) (x : Sight) → SeesAlong m h x → SeesAlong m (e ∷ h) x
sees-old m e h x (later, before, k, at, sees) = (e ∷ later, before, k, ap (λ z. e ∷ z) at, sees)

sees-new : (m : MapValue) (k : ℕ) (h : List Event) (x : Sight) → SeesNext m h k x → SeesAlong m (event.Press k ∷ h) x
sees-new m k h x sees = ([], h, k, refl, sees)

-- the first of two lists and what is behind it
firsts : (a b : Event) (g h : List Event) → a ∷ g ≡ b ∷ h → (a ≡ b) × (g ≡ h)
firsts a b g h e = (cc, cc)

sees-cases : (m : MapValue) (e : Event) (h : List Event) (x : Sight) → SeesAlong m (e ∷ h) x
    → SeesAlong m h x ⊎ ((k : ℕ) × (e ≡ event.Press k) × SeesNext m h k x)
sees-cases m e h x ([], before, k, at, sees) = grind (arith, firsts)
sees-cases m e h x (f ∷ later, before, k, at, sees) = grind (arith, firsts)

-- which keys are down after a press
down-press : (x : ScriptEvent) (k j : ℕ) (before : List ScriptEvent) → event_of x ≡ event.Press k
    → is_down j (x ∷ before) ≡ (if k == j then true else is_down j before)
down-press (script_event.Down i) k j before e = cc
down-press (script_event.Repeat i) k j before e = cc
down-press (script_event.Up i) k j before e = cc
down-press script_event.Reset k j before e = cc

-- a further event stands in front where the newest stands first
newest : (events : List ScriptEvent) (x : ScriptEvent) → reverse (events ++ x ∷ []) ≡ x ∷ reverse events
newest events x = reverse-append events (x ∷ [])

-- no script
pub script-new : (m : MapValue) (events : List ScriptEvent) (down : List Bool) (saw : Sight → Bool) → events ≡ []
    → ((x : Sight) → saw x ≡ false) → ((k : ℕ) → k < 128 → slice_index_or down k false ≡ false)
    → IsScript m [] events down saw
script-new m events down saw e none off = record {
  history = ap (λ z. events_of (reverse z)) e;
  keys = All-nil HasKey;
  possible = subst (λ z. ArePossible (reverse z)) (sym e) tt;
  pressed = λ k lt. off k lt ∙ sym (ap (λ z. is_down k (reverse z)) e);
  seen = λ x has. absurd (true≢false (sym has ∙ none x));
  all_seen = λ x (later, before, k, at, sees). absurd (nothing later (event.Press k) before at);
}
  where
    nothing : (later : List Event) (e : Event) (before : List Event) → [] ≡ later ++ e ∷ before → ⊥
    nothing [] e before at = cc
    nothing (f ∷ later) e before at = cc

-- a press
pressed-once : (m : MapValue) (h : List Event) (events : List ScriptEvent) (down : List Bool) (old now : Sight → Bool)
    (k : ℕ) (x : ScriptEvent) → IsScript m h events down old → event_of x ≡ event.Press k → CanFollow (reverse events) x
    → k < key_count → k < length down → AddsSights m h k old now
    → IsScript m (event.Press k ∷ h) (events ++ x ∷ []) (slice_set down k true) now
pressed-once m h events down old now k x t is can below-128 lt added = record {
  history =
      ap events_of (newest events x) ∙ ap (λ e. e ∷ events_of (reverse events)) is
      ∙ ap (λ z. event.Press k ∷ z) t.history;
  keys = All-cons HasKey (event.Press k) h below-128 t.keys;
  possible = subst ArePossible (sym (newest events x)) (can, t.possible);
  pressed = λ j below.
      set-cases down k j true lt (k == j) refl ∙ ap (λ b. if k == j then true else b) (t.pressed j below)
      ∙ sym (down-press x k j (reverse events) is) ∙ sym (ap (is_down j) (newest events x));
  seen = λ y has. elim ((added y).2 has) [
    | inl was ↦ sees-old m (event.Press k) h y (t.seen y was)
    | inr sees ↦ sees-new m k h y sees
  ];
  all_seen = λ y along. elim (sees-cases m (event.Press k) h y along) [
    | inl was ↦ (added y).0 (t.all_seen y was)
    | inr (j, e, sees) ↦
        let same : k ≡ j = cc in
        (added y).1 (subst (λ n. SeesNext m h n y) (sym same) sees)
  ];
}

pub script-press : (m : MapValue) (h : List Event) (events more : List ScriptEvent) (down : List Bool)
    (old now : Sight → Bool)
    (k : ℕ) (x : ScriptEvent) → more ≡ events ++ x ∷ [] → IsScript m h events down old → event_of x ≡ event.Press k
    → CanFollow (reverse events) x → k < key_count → k < length down → AddsSights m h k old now
    → IsScript m (event.Press k ∷ h) more (slice_set down k true) now
script-press m h events more down old now k x grown t is can below lt added =
    subst (λ z. IsScript m (event.Press k ∷ h) z (slice_set down k true) now) (sym grown)
    (pressed-once m h events down old now k x t is can below lt added)

-- an event that is no press
no-press : (m : MapValue) (h : List Event) (events : List ScriptEvent) (down after : List Bool) (saw : Sight → Bool)
    (x : ScriptEvent) → IsScript m h events down saw → ((k : ℕ) → event_of x ≡ event.Press k → ⊥)
    → CanFollow (reverse events) x → HasKey (event_of x)
    → ((k : ℕ) → k < 128 → slice_index_or after k false ≡ is_down k (x ∷ reverse events))
    → IsScript m (event_of x ∷ h) (events ++ x ∷ []) after saw
no-press m h events down after saw x t other can key off = record {
  history = ap events_of (newest events x) ∙ ap (λ z. event_of x ∷ z) t.history;
  keys = All-cons HasKey (event_of x) h key t.keys;
  possible = subst ArePossible (sym (newest events x)) (can, t.possible);
  pressed = λ k lt. off k lt ∙ sym (ap (is_down k) (newest events x));
  seen = λ y has. sees-old m (event_of x) h y (t.seen y has);
  all_seen = λ y along. elim (sees-cases m (event_of x) h y along) [
    | inl was ↦ t.all_seen y was
    | inr (k, e, sees) ↦ absurd (other k e)
  ];
}

pub script-up : (m : MapValue) (h : List Event) (events more : List ScriptEvent) (down : List Bool) (saw : Sight → Bool)
    (k : ℕ) → more ≡ events ++ script_event.Up k ∷ []
    → IsScript m h events down saw → k < 128 → k < length down → slice_index_or down k false ≡ true
    → IsScript m (event.Release k ∷ h) more (slice_set down k false) saw
script-up m h events more down saw k grown t below lt is =
    subst (λ z. IsScript m (event.Release k ∷ h) z (slice_set down k false) saw) (sym grown)
    (no-press m h events down (slice_set down k false) saw (script_event.Up k) t (λ j e. cc) (sym
    (t.pressed k below) ∙ is)
    below (λ j under.
    set-cases down k j false lt (k == j) refl ∙ ap (λ b. if k == j then false else b) (t.pressed j under)))

pub script-reset : (m : MapValue) (h : List Event) (events more : List ScriptEvent) (down : List Bool) (saw : Sight
    → Bool)
    → more ≡ events ++ script_event.Reset ∷ [] → IsScript m h events down saw
    → IsScript m (event.Reset ∷ h) more down saw
script-reset m h events more down saw grown t =
    subst (λ z. IsScript m (event.Reset ∷ h) z down saw) (sym grown)
    (no-press m h events down down saw script_event.Reset t (λ j e. cc) tt tt
    (λ j lt. t.pressed j lt))

-- after a reset nothing is pressed, on or pending
pub at-rest : (m : MapValue) (h : List Event) → IsAtRest m (event.Reset ∷ h)
unfolding resolved held dead_keys_taken pending_by_dead_keys
at-rest m h = (
  (λ k lt. pressed-reset k h),
  (λ i. and-false (held (holding.Mod i) (resolved (between m m) h))),
  refl,
)

-- before all events nothing is pressed, on or pending
pub at-rest_new : (m : MapValue) → IsAtRest m []
unfolding resolved held dead_keys_taken pending_by_dead_keys
at-rest_new m = ((λ k lt. pressed-start k), (λ i. refl), refl)

-- a key that isn't down isn't pressed: a reset lifts keys, and else they go up alone
by-whether : (t v a b : Bool) → (a ≡ false → b ≡ false) → (if t then v else a) ≡ false
    → (if t then v else b) ≡ false
by-whether true v a b then-not e = e
by-whether false v a b then-not e = then-not e

pub not-pressed : (k : ℕ) (xs : List ScriptEvent) → is_down k xs ≡ false → pressed k (events_of xs) ≡ false
not-pressed k [] e = pressed-start k
not-pressed k (script_event.Down j ∷ xs) e =
    pressed-press k j (events_of xs)
    ∙ by-whether (j == k) true (is_down k xs) (pressed k (events_of xs)) (λ f. not-pressed k xs f) e
not-pressed k (script_event.Repeat j ∷ xs) e =
    pressed-press k j (events_of xs)
    ∙ by-whether (j == k) true (is_down k xs) (pressed k (events_of xs)) (λ f. not-pressed k xs f) e
not-pressed k (script_event.Up j ∷ xs) e =
    pressed-release k j (events_of xs)
    ∙ by-whether (j == k) false (is_down k xs) (pressed k (events_of xs)) (λ f. not-pressed k xs f) e
not-pressed k (script_event.Reset ∷ xs) e = pressed-reset k (events_of xs)

-- a key that is pressed is down
pub up-not : (m : MapValue) (h : List Event) (events : List ScriptEvent) (down : List Bool) (saw : Sight → Bool) (k : ℕ)
    → IsScript m h events down saw → k < key_count → slice_index_or down k false ≡ false → pressed k h ≡ true → ⊥
up-not m h events down saw k t lt off on = grind (arith, not-pressed)

-- where no key is down, no modifier on and no accent pending, the script is at rest
pub rests : (m : MapValue) (h : List Event) (events : List ScriptEvent) (down : List Bool) (saw : Sight → Bool)
    → IsScript m h events down saw → AreUp down → is_any_on_after (between m m) h ≡ false
    → accent_pending_after (between m m) h ≡ None → IsAtRest m h
rests m h events down saw t up off none = grind (arith, not-pressed, no-modifier)

-- what isn't there is none
pub not-some : (o : Option ℕ) → is_some o ≡ false → o ≡ None
not-some None e = refl
not-some (Some i) e = absurd (true≢false e)

-- an array of false
pub all-off : (k : ℕ) → k < 128 → slice_index_or (replicate 128 false) k false ≡ false
all-off k lt = get_or-replicate 128 k false false lt

-- a search that doesn't note that a modifier is forgotten met no such state
pub never-forgets : (m : MapValue) (x : Sights) → AreSightsOf m x → x.forgets ≡ false → NeverForgets (alone m)
never-forgets m x are e path is forgetful =
    true≢false (sym (are.forgets.1 (path, is, forgetful)) ∙ e)
