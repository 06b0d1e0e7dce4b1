-- Which diagnostics a text has on the letters that shift and caps lock give.
use Rattle.std.specs.Prelude.{ℕ, ◌+◌, Bool, true, false, ◌&&◌, ◌||◌, if◌then◌else◌, List, [], ◌∷◌, Option, Some}
use Rattle.std.specs.Prelude.{None}
use Rattle.std.specs.Prelude.{find}
use Rattle.std.specs.Option.{option_to_list}
use Rattle.keymap_core.specs.Below.{gathered, passed}
use Rattle.keymap_core.specs.Borne.{is_borne}
use Rattle.keymap_core.specs.Maps.{cell_at, entry_at}
use Rattle.keymap_core.specs.Numbers.{slot_limit}
use Rattle.keymap_core.specs.declared.action.Holding.TheVariants as holding
use Rattle.keymap_core.specs.declared.action.Lock.TheVariants as lock
use Rattle.keymap_core.specs.declared.entry.LockFlag.{LockFlag}
use Rattle.keymap_core.specs.declared.entry.LockFlag.TheVariants as flag
use Rattle.keymap_places.specs.Placed.{last_of}
use Rattle.keymap_lint.specs.Capitals.{is_ascii, is_capital_of, is_sure}
use Rattle.keymap_lint.specs.Types.{Cell, Char, Defined, Slot, Accent, Placed, Diagnostic}
use Rattle.keymap_lint.specs.declared.diagnostic.Kind.TheVariants as kinds
use Rattle.keymap_lint.specs.Kinds.{at, character_of, is_some_in}
use Rattle.keymap_lint.specs.Spelled.{Spelled, is_in_force, is_live, offset_at}

-- a small letter and its capital: of ASCII, or of a text that is Unicode for sure
abbrev pub is_pair : Spelled → Cell → Cell → Bool
is_pair t (Char small) (Char capital) =
    is_capital_of small capital && (is_ascii small && is_ascii capital || is_sure t.map t.text)
is_pair t _ _ = false

-- EXCHANGED: a live slot whose column 0 is the capital of column 1
abbrev pub is_exchanged : Spelled → ℕ → Bool
is_exchanged t slot = is_live t slot && is_pair t (cell_at t.map slot 1) (cell_at t.map slot 0)

abbrev pub exchanged_by : Spelled → ℕ → Option Placed → Option Diagnostic
exchanged_by t slot (Some p) =
    if is_exchanged t slot
    then Some (at (offset_at t (p.first + 1)) (kinds.Exchanged slot (character_of (cell_at t.map slot 0))
    (character_of (cell_at t.map slot 1))))
    else None
exchanged_by t slot None = None

abbrev pub exchanged : Spelled → ℕ → List Diagnostic
exchanged t slot = option_to_list (exchanged_by t slot (last_of (Slot slot) t.definitions))

abbrev pub all_exchanged : Spelled → List Diagnostic
all_exchanged t = gathered (exchanged t) slot_limit

-- NO CAPS: the live slots with a letter and its capital that caps lock leaves as it is, where some key is caps lock
abbrev pub is_left_small : LockFlag → Bool
is_left_small flag.O = true
is_left_small flag.N = true
is_left_small flag.C = false
is_left_small flag.B = false

abbrev pub is_small : Spelled → ℕ → Bool
is_small t slot =
    is_live t slot && is_left_small (entry_at t.map slot).flag
    && is_pair t (cell_at t.map slot 0) (cell_at t.map slot 1)

abbrev pub small_slot : Spelled → ℕ → List ℕ
small_slot t slot = passed (is_small t slot) slot

abbrev pub small_slots : Spelled → List ℕ
small_slots t = if is_borne t.map (holding.Lock lock.Caps) then gathered (small_slot t) slot_limit else []

-- the first definition in force of such a slot
abbrev pub is_small_slot : Spelled → Defined → Bool
is_small_slot t (Slot slot) = is_small t slot
is_small_slot t (Accent i) = false

abbrev pub is_small_in_force : Spelled → Placed → Bool
is_small_in_force t p = is_in_force t p && is_small_slot t p.what

-- its lock letter stands behind its number and its cells
abbrev pub no_caps_by : Spelled → Option Placed → List Diagnostic
no_caps_by t (Some p) = at (offset_at t (p.first + 9)) kinds.NoCaps ∷ []
no_caps_by t None = []

abbrev pub no_caps : Spelled → List Diagnostic
no_caps t = if is_some_in (small_slots t) then no_caps_by t (find (is_small_in_force t) t.definitions) else []
