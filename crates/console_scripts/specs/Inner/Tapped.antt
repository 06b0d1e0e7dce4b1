-- Sets of symbols that can be tapped, of characters, and of codes of actions. Mirrors src/typed.rt.
use Rattle.std.specs.Prelude.{◌≡◌, ◌↔◌, ◌<◌, ℕ, Bool, true, false, List, Option, None, Some, slice_index_or}
use Rattle.std.specs.BTreeSet.{BTreeSet, contains}
use Rattle.std.specs.Ordering.{nat_cmp}
use Rattle.keymap_core.specs.Actions.{IsAction, code_of}
use Rattle.keymap_core.specs.Maps.{MapValue}
use Rattle.keymap_core.specs.declared.action.Action.TheVariants as act
use Rattle.console_core.specs.Answers.{usable}
use Rattle.console_states.specs.Moves.{alone}
use Rattle.console_states.specs.Sticking.{ReachesMoreThan, state_limit}
use Rattle.console_scripts.specs.Types.{Action, Cell, Char, Act}
use Rattle.console_scripts.specs.Typing.{CanTap, CanType, cell_of, composed_of, is_giving}
use Rattle.console_scripts.specs.Inner.Places.{AreFound, ArePlaces, IsMarked, cell_of_place, place_count}
use Rattle.console_scripts.specs.declared.explored.Symbol.{Symbol}
use Rattle.console_scripts.specs.declared.explored.Symbol.TheVariants as symbol
use Rattle.console_scripts.specs.declared.typed.Places.{Places}
use Rattle.console_scripts.specs.declared.typed.Tapped.{Tapped}

abbrev pub HasCharacter : BTreeSet ℕ → ℕ → Type 0
HasCharacter set c = contains nat_cmp set c ≡ true

abbrev pub has_symbol : Tapped → Symbol → Bool
has_symbol t (symbol.Character c) = contains nat_cmp t.characters c
has_symbol t (symbol.DeadKey i) = contains nat_cmp t.dead_keys i

abbrev pub HasSymbol : Tapped → Symbol → Type 0
HasSymbol t x = has_symbol t x ≡ true

-- the symbol that the cell is
abbrev pub symbol_in : Cell → Option Symbol
symbol_in (Char c) = Some (symbol.Character c)
symbol_in (Act (act.DeadKey i)) = Some (symbol.DeadKey i)
symbol_in (Act a) = None

-- the place is marked, and the symbol stands there
abbrev pub IsSymbolAt : MapValue → List Bool → ℕ → Symbol → Type 0
IsSymbolAt m marks p x = IsMarked marks p × (cell_of_place m p ≡ cell_of x)

-- these are the symbols at marked places
abbrev pub AreMarkedSymbols : MapValue → List Bool → Tapped → Type 0
AreMarkedSymbols m marks t = (x : Symbol) → HasSymbol t x ↔ ((p : ℕ) × (p < place_count) × IsSymbolAt m marks p x)

abbrev pub HasCode : List Bool → ℕ → Type 0
HasCode given c = slice_index_or given c false ≡ true

-- the place is marked, and an action with the code stands there that a tap may give
abbrev pub GivesAt : MapValue → List Bool → ℕ → ℕ → Type 0
GivesAt m marks p c =
    IsMarked marks p
    × ((a : Action) × (cell_of_place m p ≡ Act a) × IsAction a × (is_giving m a ≡ true) × (code_of a ≡ c))

-- These are places that taps look up, and those that plain ones do: all of them, unless there are many states.
pub record ArePlacesOf (m : MapValue) (x : Places) : Type 0 where
  pub all : ArePlaces m false x.is_complete x.all
  pub plain : ArePlaces m true x.is_complete x.plain
  pub alike : x.are_alike ≡ true → ArePlaces m false x.is_complete x.plain
  pub many : x.is_complete ≡ false → (p : ℕ) × ReachesMoreThan (alone m) state_limit p

-- the symbol is among these, and types the character while the accent is pending
abbrev pub Composes : MapValue → Tapped → ℕ → ℕ → Symbol → Type 0
Composes m t i c x = (composed_of m i x ≡ Some c) × HasSymbol t x

-- so does one of the second set behind the dead key of the accent, which is one of the first
abbrev pub IsComposed : MapValue → Tapped → Tapped → ℕ → ℕ → Symbol → Type 0
IsComposed m t plain i c x = (usable m i ≡ true) × HasSymbol t (symbol.DeadKey i) × Composes m plain i c x

-- these are symbols that can be tapped, and if they are complete all of them
abbrev pub AreTapped : MapValue → Bool → Bool → Tapped → Type 0
AreTapped m plain complete t = AreFound complete (HasSymbol t) (CanTap m plain)

-- Keys can type the characters, and no others, unless there are many states.
pub record TellsTyped (m : MapValue) (complete : Bool) (set : BTreeSet ℕ) : Type 0 where
  pub found : AreFound complete (HasCharacter set) (CanType m)
  pub many : complete ≡ false → (p : ℕ) × ReachesMoreThan (alone m) state_limit p
