-- What a console keeps between two events, as one record, and when that is what the resolved events so far leave.
use Rattle.std.specs.Prelude.{◌≡◌, ℕ, ◌<◌, Bool, false, List, Option, None}
use Rattle.console_core.specs.Types.{Action, Lock, Holding, Event}
use Rattle.keymap_core.specs.Maps.{MapValue}
use Rattle.keymap_core.specs.Numbers.{key_count}
use Rattle.console_core.specs.Resolved.{ResolvedEvent, held, locked, remembered, pending}
use Rattle.console_core.specs.History.{Maps, in_force, is_second_in_force, resolved}

pub record Kept : Type 0 where
  -- which modifiers are on, and which locks are down
  pub mark : Holding → Bool
  -- which locks are on
  pub lock : Lock → Bool
  -- the action that is remembered for a key
  pub memory : ℕ → Option Action
  -- the index of the pending accent
  pub pending : Option ℕ
  -- the second map is in force
  pub is_second : Bool

-- what a new console keeps
abbrev pub nothing_kept : Kept
nothing_kept = record {
  mark = λ a. false;
  lock = λ l. false;
  memory = λ j. None;
  pending = None;
  is_second = false;
}

-- What a console keeps is what the resolved events leave, under the map in force.
pub record Agrees (m : MapValue) (h : List ResolvedEvent) (k : Kept) : Type 0 where
  pub marks : (a : Holding) → k.mark a ≡ held a h
  pub locks : (l : Lock) → k.lock l ≡ locked l h
  pub memories : (j : ℕ) → j < key_count → k.memory j ≡ remembered j h
  pub pending : k.pending ≡ pending m h

-- What a console keeps is what a list of events leaves, under the two maps.
pub record StandsAt (ms : Maps) (h : List Event) (k : Kept) : Type 0 where
  pub map_in_force : k.is_second ≡ is_second_in_force h
  pub agrees : Agrees (in_force ms h) (resolved ms h) k
