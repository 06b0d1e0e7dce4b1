-- The tail of a line. Mirrors `push_tail` of src/tail.rt.
use Rattle.std.specs.Prelude.{ℕ, Bool, List, ◌++◌, codes}
use Rattle.play_core.specs.Types.{Modifier, Lock}
use Rattle.keymap_core.specs.Actions.{modifiers, locks}
use Rattle.play_core.specs.Written.{or_none, names_of_modifiers, names_of_locks}

-- what stands behind the answer in a line
unfoldable pub tail_of : (Modifier → Bool) → (Lock → Bool) → List ℕ
tail_of is_on is_locked =
    codes "; mods" ++ or_none (names_of_modifiers is_on modifiers)
    ++ codes "; locks" ++ or_none (names_of_locks is_locked locks)
    ++ codes "\n"
