-- What the tables of a console hold, by the holding action, the lock or the key. Mirrors `PlainStore` of
-- src/plain_store.rt.
use Rattle.std.specs.Prelude.{ℕ, Bool, false, List, Option, None, slice_index_or}
use Rattle.console_core.specs.Types.{Action, Holding, Lock}
use Rattle.keymap_core.specs.Actions.{holding_index, lock_index}
use Rattle.console_core.specs.Agrees.{Kept}

-- the mark of a holding action
abbrev pub mark_at : List Bool → Holding → Bool
mark_at marks a = slice_index_or marks (holding_index a) false

-- the state of a lock
abbrev pub lock_at : List Bool → Lock → Bool
lock_at locks l = slice_index_or locks (lock_index l) false

-- the action that is remembered for a key
abbrev pub memory_at : List (Option Action) → ℕ → Option Action
memory_at memory k = slice_index_or memory k None

abbrev pub kept_in_tables : List Bool → List Bool → List (Option Action) → Option ℕ → Bool → Kept
kept_in_tables marks locks memory pending is_second = record {
  mark = mark_at marks;
  lock = lock_at locks;
  memory = memory_at memory;
  pending = pending;
  is_second = is_second;
}
