-- What differs between two keymaps, and whether any press meets it.
use Rattle.std.specs.Prelude.{◌≡◌, ◌≢◌, ◌⊎◌, ℕ, ◌+◌, ◌*◌, ◌<◌, ◌≤◌, ⊤, Bool, true, false, List, [], Option}
use Rattle.std.specs.List.{AllPairs}
use Rattle.keymap_core.specs.Accents.{first_result}
use Rattle.keymap_core.specs.Bounds.{IsMap}
use Rattle.keymap_core.specs.Maps.{MapValue, n_keys_of, n_accs_of, entry_at, cell_at, accent_or_blank}
use Rattle.keymap_core.specs.Numbers.{slot_limit, column_count, accent_limit}
use Rattle.console_core.specs.Columns.{flips_shift}
use Rattle.console_states.specs.Moves.{alone}
use Rattle.console_states.specs.Sights.{Enumerates, IsReachable}
use Rattle.console_states.specs.Sticking.{ReachesMoreThan, state_limit}
use Rattle.console_states.specs.declared.selection.Sight.TheVariants as sight
use Rattle.keymap_diff.specs.Types.{DeadKey, Act, LockFlag, Change, Slots, Cell, Letter, Accents, Accent, Pair}
use Rattle.keymap_diff.specs.Types.{ListedOtherwise}

-- ---- whether a press meets what differs

-- A press meets what moves lead to: of any list of events where no key can forget that it holds a modifier, and else of
-- one along which none does.

abbrev pub MeetsCell : ℕ → ℕ → MapValue → Type 0
MeetsCell slot column m = IsReachable m (sight.Cell slot column)

-- A press can look up the slot under this setting of clock and nlock, and one of the letters alone flips shift there.
abbrev pub MeetsSetting : ℕ → LockFlag → LockFlag → Bool → Bool → MapValue → Type 0
MeetsSetting slot f g caps num m =
    (flips_shift f caps num ≢ flips_shift g caps num) × IsReachable m (sight.Locks slot caps num)

abbrev pub MeetsLetters : ℕ → LockFlag → LockFlag → MapValue → Type 0
MeetsLetters slot f g m = (caps num : Bool) × MeetsSetting slot f g caps num m

-- The cell is the dead key of the accent, and a press can look it up.
abbrev pub MeetsDeadKeyAt : ℕ → MapValue → ℕ → ℕ → Type 0
MeetsDeadKeyAt i m slot column =
    (cell_at m slot column ≡ Act (DeadKey i)) × IsReachable m (sight.Cell slot column)

abbrev pub MeetsDeadKey : ℕ → MapValue → Type 0
MeetsDeadKey i m =
    (slot column : ℕ) × (slot < slot_limit) × (column < column_count) × MeetsDeadKeyAt i m slot column

-- A press can look up the base while the accent is pending.
abbrev pub MeetsPair : ℕ → ℕ → MapValue → Type 0
MeetsPair i base m = IsReachable m (sight.Pair i base)

-- a press meets what the change tells, if it is of what presses can meet
abbrev pub MeetsChange : Change → MapValue → Type 0
MeetsChange (Cell s c a b u) m = MeetsCell s c m
MeetsChange (Letter s a b u) m = MeetsLetters s a b m
MeetsChange (Accent i a b u) m = MeetsDeadKey i m
MeetsChange (Pair i base a b u) m = MeetsPair i base m
MeetsChange _ m = ⊤

-- What differs is unseen exactly if no press meets it, under neither keymap; where a search gave up, nothing is.
abbrev pub IsMark : Bool → MapValue → MapValue → (MapValue → Type 0) → Bool → Type 0
IsMark false m n Meets is_unseen = is_unseen ≡ false
IsMark true m n Meets true = (Meets m → ⊥) × (Meets n → ⊥)
IsMark true m n Meets false = Meets m ⊎ Meets n

-- ---- what differs

-- the pairs of an accent, and what they make of a base
abbrev pub pairs_of : MapValue → ℕ → List (ℕ × ℕ)
pairs_of m i = (accent_or_blank m i).pairs

abbrev pub result_at : MapValue → ℕ → ℕ → Option ℕ
result_at m i base = first_result (pairs_of m i) base

-- both make the same of each base
abbrev pub HaveSameResults : List (ℕ × ℕ) → List (ℕ × ℕ) → Type 0
HaveSameResults ps qs = (base : ℕ) → first_result ps base ≡ first_result qs base

-- What a change tells is so of both keymaps, and not the same in them; `known` says whether it is known what presses
-- can see.
abbrev pub IsChange : Bool → MapValue → MapValue → Change → Type 0
IsChange known m n (Slots a b) = (n_keys_of m ≡ a) × (n_keys_of n ≡ b) × (a ≢ b)
IsChange known m n (Cell s c a b u) =
    (s < slot_limit) × (c < column_count) × (cell_at m s c ≡ a) × (cell_at n s c ≡ b) × (a ≢ b)
    × IsMark known m n (MeetsCell s c) u
IsChange known m n (Letter s a b u) =
    (s < slot_limit) × ((entry_at m s).flag ≡ a) × ((entry_at n s).flag ≡ b) × (a ≢ b)
    × IsMark known m n (MeetsLetters s a b) u
IsChange known m n (Accents a b) = (n_accs_of m ≡ a) × (n_accs_of n ≡ b) × (a ≢ b)
IsChange known m n (Accent i a b u) =
    (i < accent_limit) × ((accent_or_blank m i).own ≡ a) × ((accent_or_blank n i).own ≡ b) × (a ≢ b)
    × IsMark known m n (MeetsDeadKey i) u
IsChange known m n (Pair i base a b u) =
    (i < accent_limit) × (result_at m i base ≡ a) × (result_at n i base ≡ b) × (a ≢ b)
    × IsMark known m n (MeetsPair i base) u
IsChange known m n (ListedOtherwise i) =
    (i < accent_limit) × HaveSameResults (pairs_of m i) (pairs_of n i) × (pairs_of m i ≢ pairs_of n i)

-- The place of a change: first how many slots and how many accents, then slot by slot its cells by column and its
-- letter, then accent by accent its character, its pairs, and that they are listed otherwise.
abbrev pub place_of : Change → ℕ
place_of (Slots a b) = 0
place_of (Accents a b) = 1
place_of (Cell s c a b u) = 2 + (s * 9 + c)
place_of (Letter s a b u) = 2 + (s * 9 + 8)
place_of (Accent i a b u) = 2306 + i * 3
place_of (Pair i base a b u) = 2306 + (i * 3 + 1)
place_of (ListedOtherwise i) = 2306 + (i * 3 + 2)

-- The changes are all that differs, each once, by their places.
pub record AreChanges (known : Bool) (m n : MapValue) (found : List Change) : Type 0 where
  pub each : Enumerates (IsChange known m n) found
  pub in_order : AllPairs (λ x y. place_of x ≤ place_of y) found

-- more states can be reached under the keymap than a search goes over
abbrev pub GivesUp : MapValue → Type 0
GivesUp m = (p : ℕ) × ReachesMoreThan (alone m) state_limit p

-- It is known what presses can see, unless a search gave up.
abbrev pub IsKnown : Bool → MapValue → MapValue → Type 0
IsKnown true m n = ⊤
IsKnown false m n = GivesUp m ⊎ GivesUp n

-- all that differs, with whether it is unseen
abbrev pub AreDifferences : MapValue → MapValue → List Change → Type 0
AreDifferences m n found = (known : Bool) × IsKnown known m n × AreChanges known m n found

-- Nothing differs exactly if the keymaps are the same.
abbrev pub NothingIfSame : Type 0
NothingIfSame =
    (m n : MapValue) (found : List Change) → IsMap m → IsMap n → AreDifferences m n found
    → (found ≡ [] → m ≡ n) × (m ≡ n → found ≡ [])
