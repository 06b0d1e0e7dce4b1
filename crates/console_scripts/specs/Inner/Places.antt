-- The places of the cells that taps look up, where something comes of them. Mirrors src/places.rt.
use Rattle.std.specs.Prelude.{◌≡◌, ◌⊎◌, ◌↔◌, ◌<◌, ◌+◌, ◌*◌, ◌/◌, ◌%◌, if◌then◌else◌, ℕ, Bool, true, false, List, Some}
use Rattle.std.specs.Prelude.{slice_get, slice_index_or}
use Rattle.std.specs.List.{Contains}
use Rattle.keymap_core.specs.Borne.{is_upper_live}
use Rattle.keymap_core.specs.Maps.{MapValue, cell_at}
use Rattle.keymap_core.specs.Numbers.{key_count, column_count}
use Rattle.keymap_core.specs.declared.action.Action.TheVariants as act
use Rattle.console_states.specs.Moves.{alone, State, IsIdle, IsPath, is_held, state_after}
use Rattle.console_states.specs.Searching.{Entry, state_of}
use Rattle.console_states.specs.Sights.{slot_in, column_in, look_selected, selection_of}
use Rattle.console_states.specs.declared.selection.Selection.{Selection}
use Rattle.console_scripts.specs.Types.{Cell, Act, Meta, Move}
use Rattle.console_scripts.specs.Typing.{ComesHome}
use Rattle.console_scripts.specs.Inner.Exploring.{map_of_explored}
use Rattle.console_scripts.specs.Inner.Routes.{HasRoute}
use Rattle.console_scripts.specs.declared.explored.Explored.{Explored}

-- the one holds exactly where the old one or the new one does
abbrev pub Gains : {K : Type 0} → (K → Type 0) → (K → Type 0) → (K → Type 0) → Type 0
Gains {K} old now new = (x : K) → now x ↔ (old x ⊎ new x)

-- P holds of each that was found, and if they are complete each of which P holds was found
abbrev pub AreFound : {K : Type 0} → Bool → (K → Type 0) → (K → Type 0) → Type 0
AreFound {K} complete found P = (x : K) → (found x → P x) × (complete ≡ true → P x → found x)

-- something comes of a tap that looks up the cell: a character, or an action that is no modifier or lock
abbrev pub gives_cell : Cell → Bool
gives_cell (Act act.Nop) = false
gives_cell (Act (act.Mod i)) = false
gives_cell (Act (act.Lock l)) = false
gives_cell x = true

abbrev pub place_count : ℕ
place_count = 2048

-- the place of the cell that a key looks up
abbrev pub place_in : MapValue → Selection → ℕ → ℕ
place_in m y k = slot_in y k * column_count + column_in m y k

-- a key looks up the place, and something comes of it
abbrev pub Shows : MapValue → Selection → ℕ → ℕ → Type 0
Shows m y k p = (place_in m y k ≡ p) × (gives_cell (look_selected m y k) ≡ true)

-- the cell at a place, and how many places are those of live slots
abbrev pub cell_of_place : MapValue → ℕ → Cell
cell_of_place m p = cell_at m (p / column_count) (p % column_count)

abbrev pub live_count : MapValue → ℕ
live_count m = if is_upper_live m then place_count else key_count * column_count

abbrev pub IsMarked : List Bool → ℕ → Type 0
IsMarked marks p = slice_index_or marks p false ≡ true

-- the key holds nothing in the state and looks it up
abbrev pub IsLookedUp : MapValue → State → ℕ → ℕ → Type 0
IsLookedUp m s k p = IsIdle s k × Shows m (selection_of s) k p

-- What the key looks up is marked, unless it holds something. If the answer is true it was before, and nothing is left
-- out.
pub record IsWithKey (m : MapValue) (s : State) (k : ℕ) (were : Bool) (t u : List Bool) (are : Bool) : Type 0 where
  pub gains : Gains (IsMarked t) (IsMarked u) (IsLookedUp m s k)
  pub all : are ≡ true → (were ≡ true) × ((p : ℕ) → Shows m (selection_of s) k p → IsMarked u p)

-- what the keys below this one look up is marked, and all of it if the answer is true
pub record IsWithKeys (m : MapValue) (s : State) (n : ℕ) (t u : List Bool) (are : Bool) : Type 0 where
  pub gains : Gains (IsMarked t) (IsMarked u) (λ p. (k : ℕ) × (k < n) × IsLookedUp m s k p)
  pub all : are ≡ true → (p : ℕ) (k : ℕ) → k < n → Shows m (selection_of s) k p → IsMarked u p

-- some key looks it up where this is selected
abbrev pub IsSelected : MapValue → Selection → ℕ → Type 0
IsSelected m y p = (k : ℕ) × (k < key_count) × Shows m y k p

-- a tap of the key looks it up in the state; a plain one while meta is off
abbrev pub IsTapOn : MapValue → State → Bool → ℕ → ℕ → Type 0
IsTapOn m s plain p k =
    (k < key_count) × IsIdle s k × Shows m (selection_of s) k p × (plain ≡ true → is_held s Meta ≡ false)

-- so it does at the place of a state, from which a route leads home
abbrev pub IsTapOnAt : Explored → Bool → ℕ → ℕ → ℕ → Type 0
IsTapOnAt e plain p j k =
    (y : Entry) × (slice_get e.met.entries j ≡ Some y) × HasRoute e.routes.entries (state_of y.0)
    × IsTapOn (map_of_explored e) (state_of y.0) plain p k

-- They are looked up by taps: all that are at places of states before this one, and all that are selected so.
pub record IsGathered (e : Explored) (plain : Bool) (n : ℕ) (t : List Bool) (selections : List Selection) : Type 0 where
  pub only : (p : ℕ) → IsMarked t p → (j k : ℕ) × IsTapOnAt e plain p j k
  pub all : (p j k : ℕ) → j < n → IsTapOnAt e plain p j k → IsMarked t p
  pub known : (y : Selection) → Contains selections y → (p : ℕ) → IsSelected (map_of_explored e) y p → IsMarked t p

-- moves from the start lead to where a tap of some key looks it up, and more of them lead home
abbrev pub CanLookUp : MapValue → Bool → ℕ → Type 0
CanLookUp m plain p =
    (path : List Move) × IsPath (alone m) path × ComesHome (alone m) (state_after (alone m) path)
    × ((k : ℕ) × IsTapOn m (state_after (alone m) path) plain p k)

-- these are places that can be looked up, and if they are complete all of them
abbrev pub ArePlaces : MapValue → Bool → Bool → List Bool → Type 0
ArePlaces m plain complete t = AreFound complete (IsMarked t) (CanLookUp m plain)
