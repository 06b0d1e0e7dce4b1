-- What a press of a key and its release show of the difference of two keymaps. Mirrors src/showing.rt.
use Rattle.std.specs.Prelude.{◌≡◌, ◌≢◌, ◌⊎◌, ℕ, ◌<◌, true, List, Option, Some, None}
use Rattle.std.specs.List.{Contains}
use Rattle.keymap_core.specs.declared.action.Action.TheVariants as act
use Rattle.keymap_core.specs.declared.action.Modifier.{Modifier}
use Rattle.keymap_core.specs.declared.entry.Cell.{Cell}
use Rattle.keymap_core.specs.declared.entry.Cell.TheVariants.{Char, Act}
use Rattle.keymap_core.specs.Maps.{MapValue, accent_at, cell_at, entry_at}
use Rattle.keymap_core.specs.Numbers.{key_count, column_count}
use Rattle.console_core.specs.Answers.{composed_by, usable}
use Rattle.console_states.specs.Moves.{State, Under, alone, start, Holds, IsIdle}
use Rattle.console_states.specs.Sights.{look_selected, selection_of}
use Rattle.console_states.specs.Searching.{state_of, Entries}
use Rattle.console_states.specs.Looks.{IsLook, HoldsNearer}
use Rattle.console_states.specs.declared.look.KeyAt.{KeyAt}

-- what the key looks up in the state
abbrev pub looked_up : MapValue → State → ℕ → Cell
looked_up m s k = look_selected m (selection_of s) k

-- the same cell, and a dead key that can be used under both keymaps or under neither
abbrev pub AreCellsAlike : MapValue → MapValue → Cell → Cell → Type 0
AreCellsAlike m n x y = (x ≡ y) × ((i : ℕ) → x ≡ Act (act.DeadKey i) → usable m i ≡ usable n i)

-- a key that holds the modifier takes nothing by the cell
abbrev pub IsUnnoticed : Modifier → Cell → Type 0
IsUnnoticed i (Char c) = ⊥
IsUnnoticed i (Act a) = a ≢ act.Mod i

-- A press of the key puts the pending accent on the character: the key looks it up, or holds nothing and looks up the
-- accent's dead key, which is as 32.
abbrev pub Gives : MapValue → ℕ → State → ℕ → ℕ → Type 0
Gives m i s k c =
    (looked_up m s k ≡ Char c) ⊎ (IsIdle s k × (looked_up m s k ≡ Act (act.DeadKey i)) × (c ≡ 32))

-- the accent makes the same of the character
abbrev pub MakesSame : MapValue → MapValue → ℕ → ℕ → Type 0
MakesSame m n i c = composed_by (accent_at m i) c ≡ composed_by (accent_at n i) c

-- A press of the key and its release show nothing. Where no accent is minded the key looks up cells that are alike, or
-- holds a modifier and takes nothing by either; where one is and is pending, that makes the same of what it is put on.
abbrev pub ShowsNothing : MapValue → MapValue → Option ℕ → State → ℕ → Type 0
ShowsNothing m n None s k =
    AreCellsAlike m n (looked_up m s k) (looked_up n s k)
    ⊎ ((i : Modifier) × Holds s k i × IsUnnoticed i (looked_up m s k) × IsUnnoticed i (looked_up n s k))
ShowsNothing m n (Some i) s k = s.is_pending ≡ true → (c : ℕ) → Gives m i s k c → MakesSame m n i c

-- They show something.
abbrev pub Shows : MapValue → MapValue → Option ℕ → State → ℕ → Type 0
Shows m n None s k =
    (AreCellsAlike m n (looked_up m s k) (looked_up n s k) → ⊥)
    × (IsIdle s k
    ⊎ ((i : Modifier) × Holds s k i × (IsUnnoticed i (looked_up m s k) → IsUnnoticed i (looked_up n s k) → ⊥)))
Shows m n (Some i) s k = (s.is_pending ≡ true) × ((c : ℕ) × Gives m i s k c × (MakesSame m n i c → ⊥))

-- The accent is put on the character by a press that looks up the cell, which is that or the accent's dead key.
abbrev pub GivesBy : ℕ → Cell → ℕ → Type 0
GivesBy i x c = (x ≡ Char c) ⊎ ((x ≡ Act (act.DeadKey i)) × (c ≡ 32))

-- a press that looks up the cells shows nothing, whatever key holds what
abbrev pub IsClear : MapValue → MapValue → Option ℕ → Cell → Cell → Type 0
IsClear m n None x y = AreCellsAlike m n x y
IsClear m n (Some i) x y = (c : ℕ) → GivesBy i x c → MakesSame m n i c

-- the letters of the slot are the same under both keymaps, and R holds of the cells of each column
abbrev pub AreSlotsAlike : (Cell → Cell → Type 0) → MapValue → MapValue → ℕ → Type 0
AreSlotsAlike R m n slot =
    ((entry_at m slot).flag ≡ (entry_at n slot).flag)
    × ((column : ℕ) → column < column_count → R (cell_at m slot column) (cell_at n slot column))

-- nor does any that looks up the slot
abbrev pub IsSlotClear : MapValue → MapValue → Option ℕ → ℕ → Type 0
IsSlotClear m n p slot = AreSlotsAlike (IsClear m n p) m n slot

-- each key below the number that shows something in some state is among these, and these are below it
abbrev pub AreShowing : MapValue → MapValue → Option ℕ → List ℕ → ℕ → Type 0
AreShowing m n p keys b =
    ((k : ℕ) → k < b → Contains keys k ⊎ ((s : State) → ShowsNothing m n p s k))
    × ((k : ℕ) → Contains keys k → k < b)

-- no key shows anything in the state
abbrev pub NoneShows : MapValue → MapValue → Option ℕ → State → Type 0
NoneShows m n p s = (k : ℕ) → k < key_count → ShowsNothing m n p s k

-- the first place where a key shows something
abbrev pub IsFirstShown : MapValue → MapValue → Option ℕ → Entries → Option KeyAt → Type 0
IsFirstShown m n p es o =
    IsLook (λ h. NoneShows m n p (state_of h)) (λ h k. (k < key_count) × Shows m n p (state_of h) k) es o

-- a map alone, of which a search minds the accent or none
abbrev pub alone_minding : MapValue → Option ℕ → Under
alone_minding m p = record (alone m) { minded = p }

-- no key shows anything where fewer than b presses lead
abbrev pub AreClear : MapValue → MapValue → Option ℕ → ℕ → Type 0
AreClear m n p b = HoldsNearer (alone_minding m p) start (NoneShows m n p) b
