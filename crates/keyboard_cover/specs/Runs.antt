-- A run of a console from rest on, while it is made. Mirrors src/run.rt.
use Rattle.std.specs.Prelude.{◌≡◌, ℕ, ◌<◌, Bool, List, ◌++◌, reverse, slice_index_or, false, None}
use Rattle.keymap_core.specs.Maps.{MapValue}
use Rattle.keymap_core.specs.Numbers.{key_count}
use Rattle.console_core.specs.declared.event.Event.{Event}
use Rattle.console_core.specs.History.{Maps, between, pressed, HasKeys, HasNoLoads, IsQuiet, is_on_after}
use Rattle.console_core.specs.History.{is_locked_after, accent_pending_after, resolved}
use Rattle.console_core.specs.Resolved.{down, remembered}
use Rattle.keymap_core.specs.declared.action.Modifier.{Modifier}
use Rattle.keymap_core.specs.declared.action.Lock.{Lock}
use Rattle.keymap_cover.specs.declared.script_event.ScriptEvent.{ScriptEvent}
use Rattle.keymap_cover.specs.ScriptEvents.{events_of, is_down, ArePossible}
use Rattle.console_states.specs.declared.allowed.Presses.{Presses}
use Rattle.keyboard_cover.specs.Allowed.{AllMayCome}

-- the keymap, what may be pressed, and the events so far
pub record RunValue : Type 0 where
  pub map : MapValue
  pub presses : Presses
  pub events : List ScriptEvent

-- how a console stands, under two keymaps, at a list
abbrev pub Standing : Type 0 → Type 1
Standing T = T → Maps → List Event → Type 0

-- Rest: behind the list, which has no loads, no key is pressed, nothing is remembered, no modifier and no lock is on, no
-- lock is down, and no accent is pending. So a console goes on as a new one.
pub record IsRest (m : MapValue) (h : List Event) : Type 0 where
  pub keys : HasKeys h
  pub loads : HasNoLoads h
  pub quiet : IsQuiet h
  pub remembered : (k : ℕ) → k < key_count → remembered k (resolved (between m m) h) ≡ None
  pub on : (i : Modifier) → is_on_after (between m m) i h ≡ false
  pub locked : (l : Lock) → is_locked_after (between m m) l h ≡ false
  pub down : (l : Lock) → down l (resolved (between m m) h) ≡ false
  pub pending : accent_pending_after (between m m) h ≡ None

-- the lock is off behind the list, and not down
abbrev pub IsUnlocked : MapValue → Lock → List Event → Type 0
IsUnlocked m l h = (is_locked_after (between m m) l h ≡ false) × (down l (resolved (between m m) h) ≡ false)

-- the events of a run, the newest first
abbrev pub run_events : List ScriptEvent → List Event
run_events events = events_of (reverse events)

-- The console ran along the events behind any rest, each of which may come, and the table tells which keys are pressed.
pub record IsRun {T : Type 0} (stands : Standing T) (m : MapValue) (a : Presses) (now : T) (down : List Bool)
    (events : List ScriptEvent) : Type 0 where
  pub console : (h : List Event) → IsRest m h → stands now (between m m) (run_events events ++ h)
  pub comes : (h : List Event) → IsRest m h → AllMayCome a m h (run_events events)
  pub pressed : (h : List Event) → IsRest m h → (k : ℕ) → k < key_count
      → slice_index_or down k false ≡ pressed k (run_events events ++ h)
  pub table : (k : ℕ) → k < key_count → slice_index_or down k false ≡ is_down k (reverse events)
  pub possible : ArePossible (reverse events)

-- a run that ends at rest, behind any rest
abbrev pub EndsAtRest : MapValue → List ScriptEvent → Type 0
EndsAtRest m events = (h : List Event) → IsRest m h → IsRest m (run_events events ++ h)
