-- What a script that tests a console by its keyboard promises, and what is told of each sight.
use Rattle.std.specs.Prelude.{◌≡◌, ◌↔◌, ◌<◌, ◌≤◌, ℕ, Bool, true, false, List, [], All, Option, None, Some, length}
use Rattle.std.specs.Prelude.{reverse, take}
use Rattle.std.specs.Prelude.{if◌then◌else◌}
use Rattle.keymap_core.specs.Maps.{MapValue, cell_at}
use Rattle.keymap_core.specs.Numbers.{column_count, slot_limit}
use Rattle.keymap_core.specs.declared.action.Action.TheVariants as act
use Rattle.keymap_core.specs.declared.entry.Cell.{Cell}
use Rattle.keymap_core.specs.declared.entry.Cell.TheVariants.{Char, Act}
use Rattle.console_states.specs.AllowedSights.{IsReachableUnder}
use Rattle.console_states.specs.Sights.{SeesAlong}
use Rattle.console_states.specs.Sticking.{ReachesMoreThan, state_limit}
use Rattle.console_states.specs.declared.selection.Sight.{Sight}
use Rattle.console_states.specs.declared.selection.Sight.TheVariants as sight
use Rattle.keymap_cover.specs.declared.script_event.ScriptEvent.{ScriptEvent}
use Rattle.keymap_cover.specs.declared.seen.Seen.{Seen}
use Rattle.keymap_cover.specs.ScriptEvents.{ArePossible}
use Rattle.keymap_cover.specs.SeenSights.{has_seen}
use Rattle.console_states.specs.declared.allowed.Presses.{Presses}
use Rattle.keyboard_cover.specs.declared.cases.Case.{Case}
use Rattle.keyboard_cover.specs.declared.checked.KeyboardScript.{KeyboardScript}
use Rattle.keyboard_cover.specs.declared.cover.KeyboardCover.{KeyboardCover}
use Rattle.keymap_cover.specs.declared.parts.Verdict.{Verdict}
use Rattle.keymap_cover.specs.declared.parts.Verdict.TheVariants.{Seen as SeenVerdict, LeftOut, Never}
use Rattle.keyboard_cover.specs.Sights.{AreAllowedSights, NeverSeesBy, under}
use Rattle.console_core.specs.declared.event.Event.{Event}
use Rattle.keyboard_cover.specs.Allowed.{AllMayCome}
use Rattle.keyboard_cover.specs.Runs.{IsRest, Standing, run_events}
use Rattle.console_core.specs.History.{between}

-- there is rest before the event at which the case begins
abbrev pub BeginsAtRest : MapValue → List ScriptEvent → Case → Type 0
BeginsAtRest m events x = (x.at ≤ length events) × IsRest m (run_events (take x.at events))

-- what was seen is what the presses of the list see
abbrev pub Knows : MapValue → Seen → List Event → Type 0
Knows m saw h = (x : Sight) → (has_seen saw x ≡ true) ↔ SeesAlong m h x

-- Each event of the script may be sent by a keyboard, and comes when it can: only keys that aren't pressed go down, only
-- pressed ones are repeated and released. At each case and at the end there is rest. What was seen is what the presses
-- see.
pub record IsScript (m : MapValue) (a : Presses) (x : KeyboardScript) : Type 0 where
  pub comes : AllMayCome a m [] (run_events x.events.items)
  pub possible : ArePossible (reverse x.events.items)
  pub rest : IsRest m (run_events x.events.items)
  pub cases : All (BeginsAtRest m x.events.items) x.cases.items
  pub seen : Knows m x.seen (run_events x.events.items)

-- a console runs along a script
abbrev pub RunsAlong : {T : Type 0} → Standing T → MapValue → Presses → T → KeyboardScript → Type 0
RunsAlong stands m a console x = stands console (between m m) (run_events x.events.items) × IsScript m a x

-- the events of the script, with the newest first
abbrev pub history : KeyboardCover → List Event
history c = run_events c.script.events.items

-- What a script and its lists say: what the script sees, and what allowed presses can see.
pub record Covers (p : Presses) (m : MapValue) (c : KeyboardCover) : Type 0 where
  pub script : IsScript m p c.script
  pub sights : AreAllowedSights p m c.sights

-- What is told of a sight: the script sees it; or it doesn't, though allowed presses can; or no admitted list sees it.
abbrev pub IsVerdict : Presses → MapValue → KeyboardCover → Sight → Verdict → Type 0
IsVerdict p m c x SeenVerdict = SeesAlong m (history c) x
IsVerdict p m c x LeftOut = (SeesAlong m (history c) x → ⊥) × IsReachableUnder (under p m) x
IsVerdict p m c x Never =
    (SeesAlong m (history c) x → ⊥) × (IsReachableUnder (under p m) x → ⊥) × NeverSeesBy p m c.sights.forgets x

-- the verdict on a sight
abbrev pub verdict_of : KeyboardCover → Sight → Verdict
verdict_of c x =
    if has_seen c.script.seen x then SeenVerdict else (if has_seen c.sights.can x then LeftOut else Never)

-- What is told of each sight is so: what an admitted list sees the script sees, or it is told as left out.
abbrev pub VerdictsAreSo : Type 0
VerdictsAreSo =
    (p : Presses) (m : MapValue) (c : KeyboardCover) → Covers p m c → (x : Sight) → IsVerdict p m c x (verdict_of c x)

-- a press that looks up the cell types something
abbrev pub is_typing : Cell → Bool
is_typing (Char c) = true
is_typing (Act act.BackTab) = true
is_typing _ = false

-- allowed presses can look up this cell, and type by it
abbrev pub TypesAt : MapValue → KeyboardCover → ℕ → ℕ → Type 0
TypesAt m c slot column =
    (is_typing (cell_at m slot column) ≡ true) × (has_seen c.sights.can (sight.Cell slot column) ≡ true)

-- allowed presses can type something
abbrev pub CanType : MapValue → KeyboardCover → Type 0
CanType m c = (slot column : ℕ) × (slot < slot_limit) × (column < column_count) × TypesAt m c slot column

-- the cover of the keymap by these presses, or the search gives up
abbrev pub IsCover : Presses → MapValue → Option KeyboardCover → Type 0
IsCover p m None = (n : ℕ) × ReachesMoreThan (under p m) state_limit n
IsCover p m (Some c) = Covers p m c
