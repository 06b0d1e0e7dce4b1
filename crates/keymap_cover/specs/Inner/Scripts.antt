-- A script while it is made. Mirrors src/seen.rt, src/script.rt and src/cover.rt.
use Rattle.std.specs.Prelude.{◌≡◌, ◌⊎◌, ℕ, ◌<◌, ◌≤◌, Bool, true, false, List, ◌∷◌, ◌++◌, Option, Some, reverse}
use Rattle.std.specs.Prelude.{length}
use Rattle.std.specs.Prelude.{slice_index_or}
use Rattle.std.specs.List.{Contains}
use Rattle.keymap_core.specs.Maps.{MapValue}
use Rattle.keymap_core.specs.Numbers.{key_count}
use Rattle.console_core.specs.declared.event.Event.{Event}
use Rattle.console_core.specs.declared.event.Event.TheVariants.{Release}
use Rattle.keymap_core.specs.declared.action.Lock.{Lock}
use Rattle.console_states.specs.declared.selection.Sight.{Sight}
use Rattle.keymap_core.specs.declared.entry.Cell.TheVariants.{Char}
use Rattle.console_states.specs.declared.selection.Selection.{Selection}
use Rattle.console_states.specs.declared.selection.Sight.TheVariants as sight
use Rattle.console_core.specs.History.{Maps, between, is_locked_after, pressed, HasKeys}
use Rattle.console_scripts.specs.Visiting.{AreTaken, CanVisit, CannotSee, IsNearHome, IsPair}
use Rattle.console_states.specs.Sights.{look_selected, IsReachable, SeesAlong}
use Rattle.keymap_cover.specs.declared.script_event.ScriptEvent.{ScriptEvent}
use Rattle.keymap_cover.specs.declared.script.Script.{Script}
use Rattle.keymap_cover.specs.ScriptEvents.{events_of, is_down, ArePossible}
use Rattle.keymap_cover.specs.SeenSights.{has_seen}
pub use Rattle.keymap_cover.specs.SeenSights.{AddsSights}
use Rattle.keymap_cover.specs.Told.{IsTold}
use Rattle.keymap_cover.specs.Covering.{IsAtRest, IsScrollOff, SeesKeysBy, SeesToldBy, ShowsPair}

-- x is there, and what was there before, and nothing else
abbrev pub IsWith : Sight → (Sight → Bool) → (Sight → Bool) → Type 0
IsWith x old now =
    (now x ≡ true)
    × ((y : Sight) → (old y ≡ true → now y ≡ true) × (now y ≡ true → (old y ≡ true) ⊎ (x ≡ y)))

-- the pair that a press of the key composes was added, and nothing else
abbrev pub IsPairOf : MapValue → Selection → ℕ → Option ℕ → Sight → Type 0
IsPairOf m y k pending (sight.Pair accent c) = (pending ≡ Some accent) × (look_selected m y k ≡ Char c)
IsPairOf m y k pending _ = ⊥

abbrev pub AddsPair : MapValue → Selection → ℕ → Option ℕ → (Sight → Bool) → (Sight → Bool) → Type 0
AddsPair m y k pending old now =
    (x : Sight) → (old x ≡ true → now x ≡ true) × (IsPairOf m y k pending x → now x ≡ true)
    × (now x ≡ true → (old x ≡ true) ⊎ IsPairOf m y k pending x)

-- the events of a script made this history, after which these keys are pressed, and this was seen
pub record IsScript (m : MapValue) (h : List Event) (events : List ScriptEvent) (down : List Bool) (saw : Sight → Bool)
    : Type 0 where
  pub history : events_of (reverse events) ≡ h
  pub keys : HasKeys h
  pub possible : ArePossible (reverse events)
  pub pressed : (k : ℕ) → k < key_count → slice_index_or down k false ≡ is_down k (reverse events)
  pub seen : (x : Sight) → saw x ≡ true → SeesAlong m h x
  pub all_seen : (x : Sight) → SeesAlong m h x → saw x ≡ true

abbrev pub IsScriptOf : {T : Type 0} → MapValue → List Event → Script T → Type 0
IsScriptOf m h t = IsScript m h t.events.items t.pressed (has_seen t.seen)

-- how a console stands, under two keymaps, at a list
abbrev pub Standing : Type 0 → Type 1
Standing T = T → Maps → List Event → Type 0

-- the console of the script runs along, and this list was made
abbrev pub RunsAlong : {T : Type 0} → MapValue → Standing T → List Event → Script T → Type 0
RunsAlong m stands h t = stands t.console (between m m) h × IsScriptOf m h t

-- the events of the one list came after the other
abbrev pub ComesAfter : List Event → List Event → Type 0
ComesAfter h g = (later : List Event) × (g ≡ later ++ h)

-- the console runs along by one event more
abbrev pub GoesBy : {T : Type 0} → MapValue → Event → Standing T → Script T → Script T → Type 0
GoesBy m e stands a b = (h : List Event) → RunsAlong m stands h a → RunsAlong m stands (e ∷ h) b

-- the events of the one list came after the other, and turned no lock
abbrev pub TurnsNone : MapValue → List Event → List Event → Type 0
TurnsNone m h g =
    ComesAfter h g × ((l : Lock) → is_locked_after (between m m) l g ≡ is_locked_after (between m m) l h)

-- the console runs along by the release of the key, or not at all where that isn't pressed
abbrev pub GoesUp : {T : Type 0} → MapValue → ℕ → Standing T → Script T → Script T → Type 0
GoesUp m k stands a b =
    (h : List Event) → RunsAlong m stands h a
    → (g : List Event) × RunsAlong m stands g b × TurnsNone m h g × (pressed k h ≡ true → g ≡ Release k ∷ h)

-- the console runs along by some events more, that turn no lock
abbrev pub GoesOn : {T : Type 0} → MapValue → Standing T → Script T → Script T → Type 0
GoesOn m stands a b =
    (h : List Event) → RunsAlong m stands h a → (g : List Event) × RunsAlong m stands g b × TurnsNone m h g

-- the console runs along by some events more, that turn no lock, and comes to rest
abbrev pub GoesToRest : {T : Type 0} → MapValue → Standing T → Script T → Script T → Type 0
GoesToRest m stands a b =
    (h : List Event) → RunsAlong m stands h a
    → (g : List Event) × RunsAlong m stands g b × TurnsNone m h g × IsAtRest m g

-- the console runs along by some events more, which are exactly these if they are taken
abbrev pub GoesAlong : {T : Type 0} → MapValue → List Event → Standing T → Script T → Script T → Type 0
GoesAlong m later stands a b =
    (h : List Event) → RunsAlong m stands h a
    → (g : List Event) × RunsAlong m stands g b × ComesAfter h g × (AreTaken h later → g ≡ later ++ h)

-- the console runs along by these events, as above, and comes to rest by some more, that turn no lock
abbrev pub GoesAlongToRest : {T : Type 0} → MapValue → List Event → Standing T → Script T → Script T → Type 0
GoesAlongToRest m later stands a b =
    (h : List Event) → RunsAlong m stands h a
    → (g : List Event) × RunsAlong m stands g b × IsAtRest m g × ComesAfter h g
    × (AreTaken h later → TurnsNone m (later ++ h) g)

abbrev pub AreUp : List Bool → Type 0
AreUp down = (k : ℕ) → k < key_count → slice_index_or down k false ≡ false

-- the console runs along a script that is at rest with no key down
abbrev pub IsResting : {T : Type 0} → MapValue → Standing T → List Event → Script T → Type 0
IsResting m stands h t = RunsAlong m stands h t × AreUp t.pressed × IsAtRest m h

-- the console goes on at rest by some events more
abbrev pub GoesResting : {T : Type 0} → MapValue → Standing T → Script T → Script T → Type 0
GoesResting m stands a b =
    (h : List Event) → IsResting m stands h a → (g : List Event) × IsResting m stands g b × ComesAfter h g

-- and the scroll lock is off, or presses can't turn it off
abbrev pub GoesScrollOff : {T : Type 0} → MapValue → Standing T → Script T → Script T → Type 0
GoesScrollOff m stands a b =
    (h : List Event) → IsResting m stands h a
    → (g : List Event) × IsResting m stands g b × ComesAfter h g × IsScrollOff m g

-- of the cells and lock settings each that can be seen was seen, or by no press to which moves lead from the list's end
abbrev pub LeavesNoneAhead : {T : Type 0} → MapValue → List Event → Script T → Type 0
LeavesNoneAhead m h t =
    (x : Sight) → IsTold m x → (IsPair x → ⊥) → IsReachable m x → (has_seen t.seen x ≡ true) ⊎ CannotSee m h x

-- nothing was done, or a cell or a lock setting can be seen that wasn't
abbrev pub IsForLeft : {T : Type 0} → MapValue → Script T → Script T → Type 0
IsForLeft m a b =
    (b.events.items ≡ a.events.items)
    ⊎ ((x : Sight) × IsTold m x × (IsPair x → ⊥) × IsReachable m x × (has_seen a.seen x ≡ false))

-- from where that is so the console goes on so, for what is left of the cells and lock settings, and leaves none ahead
abbrev pub GoesToEnd : {T : Type 0} → MapValue → Standing T → Script T → Script T → Type 0
GoesToEnd m stands a b =
    (h : List Event) → IsResting m stands h a → IsScrollOff m h
    → (g : List Event) × IsResting m stands g b × ComesAfter h g × IsScrollOff m g × LeavesNoneAhead m g b
    × IsForLeft m a b

-- The console runs along a script that is at rest with no key down, near home.
abbrev pub IsUnderWay : {T : Type 0} → MapValue → Standing T → List Event → Script T → Type 0
IsUnderWay m stands h t = IsResting m stands h t × IsNearHome m h

-- the console goes on under way by some events more, and then this holds
abbrev pub GoesUnderWay : {T : Type 0} → MapValue → Standing T → Script T → Script T → Type 0 → Type 0
GoesUnderWay m stands a b P =
    (h : List Event) → IsUnderWay m stands h a → (g : List Event) × IsUnderWay m stands g b × ComesAfter h g × P

-- a script of which no key is down at the end, which is at rest, and which leaves the scroll lock off if presses can
-- turn it off, and no cell or lock setting ahead
abbrev pub EndsAtRest : {T : Type 0} → MapValue → Script T → Type 0
EndsAtRest m t =
    AreUp t.pressed
    × ((h : List Event) × IsScriptOf m h t × IsAtRest m h × IsScrollOff m h × LeavesNoneAhead m h t)

-- what of these can be visited was seen
abbrev pub SeesAll : {T : Type 0} → MapValue → List Sight → Script T → Type 0
SeesAll m xs t = (x : Sight) → Contains xs x → CanVisit m x → has_seen t.seen x ≡ true

-- nothing was done, or a sight of this kind is seen that wasn't
abbrev pub ShowsNew : {T : Type 0} → (Sight → Type 0) → Script T → Script T → Type 0
ShowsNew P a b =
    (b.events.items ≡ a.events.items)
    ⊎ ((x : Sight) × P x × (has_seen a.seen x ≡ false) × (has_seen b.seen x ≡ true))

-- a script saw in its first n events what of the keys can be visited, and in all of them what of all that is told of;
-- behind the first n it saw a pair that it hadn't seen, if there are any events
abbrev pub ShowsTold : {T : Type 0} → MapValue → ℕ → Script T → Type 0
ShowsTold m n t =
    (n ≤ length t.events.items) × SeesKeysBy m t.events.items n
    × SeesToldBy m t.events.items (length t.events.items)
    × (n < length t.events.items → ShowsPair m t.events.items n (length t.events.items))
