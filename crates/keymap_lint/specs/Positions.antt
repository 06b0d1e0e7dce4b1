-- Where the diagnostics of a text stand, and what stands there.
use Rattle.std.specs.Prelude.{◌≡◌, ◌≢◌, ℕ, ◌+◌, ◌*◌, ◌-◌, ◌<◌, ◌≤◌, Bool, true, List, [], ◌∷◌, All, Contains, length}
use Rattle.std.specs.Prelude.{map}
use Rattle.std.specs.Prelude.{take, drop, Some, None, IfSome, Ok, ⊤, not, ◌||◌, slice_index}
use Rattle.keymap_core.specs.declared.action.Action.TheVariants as action
use Rattle.keymap_lint.specs.Types.{Holding, Cell, Char, Act, Slot, Accent, CellInForce, Finding, Diagnostic}
use Rattle.keymap_lint.specs.Types.{Defined, Diagnostics, Placed, Span}
use Rattle.keymap_lint.specs.Types.{Kind, Lint, Faulty, PlacedFault, Spelled as OfSpelled}
use Rattle.keymap_core.specs.Actions.{holding_action}
use Rattle.keymap_core.specs.Maps.{MapValue, cell_at, entry_at}
use Rattle.keymap_core.specs.Numbers.{key_count}
use Rattle.keymap_core.specs.declared.entry.LockFlag.{LockFlag}
use Rattle.keymap_text.specs.Items.{cell, character}
use Rattle.keymap_text.specs.Lexical.{TokenValue}
use Rattle.keymap_text.specs.Meaning.{Spells, item_of, tokens}
use Rattle.keymap_places.specs.Placed.{IsSpelledBy, Row, begins, last_of}
use Rattle.keymap_text.specs.Rows.{ArePairs}
use Rattle.keymap_text.specs.declared.words.Item.TheVariants.{Value}
use Rattle.keymap_text.specs.declared.words.Meaning.TheVariants.{Letter}
use Rattle.keymap_lint.specs.declared.diagnostic.BadIgnore.TheVariants as bad
use Rattle.keymap_lint.specs.declared.diagnostic.Kind.TheVariants as kinds
use Rattle.keymap_lint.specs.KindNames.{may_be_ignored, is_never_ignored}
use Rattle.keymap_lint.specs.Lists.{IsLint, spelled_by}
use Rattle.keymap_lint.specs.Alphabets.{in_half}
use Rattle.keymap_lint.specs.Octal.{looks_octal}
use Rattle.keymap_lint.specs.Shifted.{is_small}
use Rattle.keymap_lint.specs.Spelled.{Spelled, bytes_at, cells_in_force, content, is_live, offset_at}

-- A token of the text has this place, and is such a one.
pub record HasToken (text : List ℕ) (place : ℕ) (IsSuch : TokenValue → Type 0) : Type 0 where
  pub token : TokenValue
  pub among : Contains (tokens text) token
  pub start : token.start ≡ place
  pub such : IsSuch token

-- A token with this place spells this cell.
abbrev pub SpellsCell : List ℕ → ℕ → Cell → Type 0
SpellsCell text place x = HasToken text place (λ token. cell (item_of token) ≡ Ok x)

-- The cells in force are tokens that spell what the map has there.
abbrev pub CellsInForceAreSpelled : Type 0
CellsInForceAreSpelled =
    (text : List ℕ) (m : MapValue) (rows : List Row) → IsSpelledBy text m rows
    → All (λ c. SpellsCell text c.span.start (content (spelled_by text m rows) c))
    (cells_in_force (spelled_by text m rows))

-- A cell in force begins at the place, and a token spells it; it is one of these.
pub record StandsAt (text : List ℕ) (t : Spelled) (place : ℕ) (IsOne : CellInForce → Type 0) : Type 0 where
  pub cell : CellInForce
  pub in_force : Contains (cells_in_force t) cell
  pub start : cell.span.start ≡ place
  pub spelled : SpellsCell text place (content t cell)
  pub one : IsOne cell

-- the cell of the finding's modifier or lock, where the character that is told stands in the other one
abbrev pub IsHoldingOf : Spelled → Finding → ℕ → CellInForce → Type 0
IsHoldingOf t f character c =
    (c.slot ≡ f.holding_at.slot) × (c.column ≡ f.holding_at.column) × (content t c ≡ Act (holding_action f.holding))
    × (cell_at t.map f.character_at.slot f.character_at.column ≡ Char character)

-- a cell of a lower slot that selects the slots from 128 on
abbrev pub IsSelectorOf : Spelled → Holding → CellInForce → Type 0
IsSelectorOf t selector c = (c.slot < key_count) × (content t c ≡ Act (holding_action selector))

-- a live cell that is the dead key of an accent without a definition
abbrev pub IsMissingDeadKey : Spelled → CellInForce → Type 0
IsMissingDeadKey t c =
    (i : ℕ) × (is_live t c.slot ≡ true) × (content t c ≡ Act (action.DeadKey i))
    × (last_of (Accent i) t.definitions ≡ None)

-- the character, in one byte
abbrev pub IsOneByte : Spelled → ℕ → CellInForce → Type 0
IsOneByte t character c = (content t c ≡ Char character) × (c.span.end - c.span.start ≡ 1)

-- the cell of column 0, and what is told of it and of that of column 1
abbrev pub IsExchangedIn : Spelled → ℕ → ℕ → ℕ → CellInForce → Type 0
IsExchangedIn t slot base shifted c =
    (c.slot ≡ slot) × (c.column ≡ 0) × (content t c ≡ Char base) × (cell_at t.map slot 1 ≡ Char shifted)

-- the character, in this column
abbrev pub IsCharacterIn : Spelled → ℕ → ℕ → CellInForce → Type 0
IsCharacterIn t column character c = (c.column ≡ column) × (content t c ≡ Char character)

-- the cell of column 2 of a slot of that half
abbrev pub IsControlIn : Bool → CellInForce → Type 0
IsControlIn above c = (c.column ≡ 2) × (in_half above c.slot ≡ true)

abbrev pub IsLockLetter : LockFlag → TokenValue → Type 0
IsLockLetter flag token = item_of token ≡ Value (Letter flag)

-- A definition of this begins at the place, with its number or its name.
pub record BeginsAt (text : List ℕ) (t : Spelled) (what : Defined) (place : ℕ) : Type 0 where
  pub definition : Placed
  pub among : Contains t.definitions definition
  pub defines : definition.what ≡ what
  pub at : offset_at t definition.first ≡ place
  pub name : HasToken text place (λ token. begins (item_of token) ≡ Some what)

-- it is the one in force
abbrev pub BeginsInForceAt : List ℕ → Spelled → Defined → ℕ → Type 0
BeginsInForceAt text t what place =
    (b : BeginsAt text t what place) × (last_of what t.definitions ≡ Some b.definition)

-- a definition stands there that isn't in force, and the one in force where it is told
abbrev pub IsReplaced : List ℕ → Spelled → Defined → ℕ → ℕ → Type 0
IsReplaced text t what place last =
    (b : BeginsAt text t what place) × (l : BeginsInForceAt text t what last)
    × (b.definition.first ≢ l.0.definition.first)

-- The definition in force of an accent stands in the text, and behind its name the accent's character.
pub record HasCharacter (text : List ℕ) (t : Spelled) (i c place : ℕ) : Type 0 where
  pub definition : Placed
  pub in_force : last_of (Accent i) t.definitions ≡ Some definition
  pub at : offset_at t (definition.first + 1) ≡ place
  pub own : HasToken text place (λ token. character (item_of token) ≡ Ok c)

-- In the definition in force of an accent so many pairs stand before the place, and there four tokens that spell one
-- with this base.
pub record HasPair (text : List ℕ) (t : Spelled) (i base before place : ℕ) : Type 0 where
  pub definition : Placed
  pub in_force : last_of (Accent i) t.definitions ≡ Some definition
  pub number : ℕ
  pub behind : number ≡ definition.first + (2 + 4 * before)
  pub at : offset_at t number ≡ place
  pub pair : ℕ × ℕ
  pub of_base : pair.0 ≡ base
  pub spelled : ArePairs (map item_of (take 4 (drop number (tokens text)))) (pair ∷ [])

-- a pair with this base, and before it one of the same accent with this base
abbrev pub IsPairAgain : List ℕ → Spelled → ℕ → ℕ → ℕ → ℕ → Type 0
IsPairAgain text t i base first place =
    (k : ℕ) × (j : ℕ) × (k < j) × HasPair text t i base k first × HasPair text t i base j place

-- such a word begins at the place
abbrev pub IsWordOf : List ℕ → (List ℕ → Bool) → Span → ℕ → Type 0
IsWordOf text is_such word place =
    (word.start ≡ place) × (word.start ≤ word.end) × (word.end ≤ length text) × (is_such (bytes_at text word) ≡ true)

abbrev pub is_no_kind : List ℕ → Bool
is_no_kind word = not (may_be_ignored word || is_never_ignored word)

-- what stands at the place of a diagnostic, if it has one: the token or the definition of which it tells
abbrev pub StandsThere : List ℕ → Spelled → ℕ → Kind → Type 0
StandsThere text t place (kinds.MixedKey f character) = StandsAt text t place (IsHoldingOf t f character)
StandsThere text t place (kinds.HalfDefined s keys) = StandsAt text t place (IsSelectorOf t s)
StandsThere text t place (kinds.DeadKey some) = StandsAt text t place (IsMissingDeadKey t)
StandsThere text t place (kinds.BareDigit character) = StandsAt text t place (IsOneByte t character)
StandsThere text t place (kinds.DefinedAgain what last) = IsReplaced text t what place last
StandsThere text t place kinds.Gap = (slot : ℕ) × BeginsAt text t (Slot slot) place
StandsThere text t place (kinds.Exchanged slot base shifted) =
    StandsAt text t place (IsExchangedIn t slot base shifted)
StandsThere text t place (kinds.Twice one other column character missing) =
    StandsAt text t place (IsCharacterIn t column character)
StandsThere text t place (kinds.NoControl above) = StandsAt text t place (IsControlIn above)
StandsThere text t place kinds.NoCaps =
    (slot : ℕ) × (is_small t slot ≡ true) × HasToken text place (IsLockLetter (entry_at t.map slot).flag)
StandsThere text t place (kinds.OctalLike character start octal) =
    (start ≡ place) × ((n : ℕ) × (looks_octal (take n (drop place text)) ≡ true))
StandsThere text t place (kinds.ZeroAccent i) = HasCharacter text t i 0 place
StandsThere text t place (kinds.PairAgain i base first) = IsPairAgain text t i base first place
StandsThere text t place kinds.UnusedHalf =
    (slot : ℕ) × (key_count ≤ slot) × BeginsInForceAt text t (Slot slot) place
StandsThere text t place kinds.NoKey = ⊥
StandsThere text t place kinds.CannotType = ⊥
StandsThere text t place kinds.NoShift = ⊥
StandsThere text t place (kinds.UnusedIgnore word) = IsWordOf text may_be_ignored word place
StandsThere text t place (kinds.BadIgnore (bad.NotIgnored word)) = IsWordOf text is_never_ignored word place
StandsThere text t place (kinds.BadIgnore (bad.NoKind word)) = IsWordOf text is_no_kind word place
StandsThere text t place (kinds.BadIgnore bad.NoKinds) = slice_index text place ≡ 35
StandsThere text t place (kinds.BadIgnore bad.NoWord) = slice_index text place ≡ 35

-- the further places that a diagnostic tells
abbrev pub TellsWithin : List ℕ → Kind → Type 0
TellsWithin text (kinds.DefinedAgain what last) = last ≤ length text
TellsWithin text (kinds.OctalLike character start octal) = start ≤ length text
TellsWithin text (kinds.PairAgain a base first) = first ≤ length text
TellsWithin text k = ⊤

-- Each place of a diagnostic lies within the text.
abbrev pub IsWithin : List ℕ → Diagnostic → Type 0
IsWithin text d = IfSome d.place (λ p. p ≤ length text) × TellsWithin text d.kind

-- where a fault stands, where the token before it ends, and where the definition begins
abbrev pub FaultLiesWithin : List ℕ → PlacedFault → Type 0
FaultLiesWithin text f =
    (f.fault.offset ≤ length text) × IfSome f.place.definition (λ d. d.offset ≤ length text)
    × (f.place.behind ≤ length text)

-- Each place that is told of a text lies within it.
abbrev pub LiesWithin : List ℕ → Lint → Type 0
LiesWithin text (Faulty faults) = All (FaultLiesWithin text) faults.items
LiesWithin text (OfSpelled l) = All (IsWithin text) l.list.items

-- a diagnostic stands at what it tells of
abbrev pub IsAtWhatItTells : List ℕ → Spelled → Diagnostic → Type 0
IsAtWhatItTells text t d = IfSome d.place (λ p. StandsThere text t p d.kind)

abbrev pub StandsWithin : List ℕ → Spelled → Diagnostic → Type 0
StandsWithin text t d = IsWithin text d × IsAtWhatItTells text t d

-- all diagnostics of a text that spells a map by these rows stand within it, at what they tell of
abbrev pub AllStand : List ℕ → MapValue → List Row → Diagnostics → Type 0
AllStand text m rows l =
    Spells text m × IsSpelledBy text m rows × All (StandsWithin text (spelled_by text m rows)) l.list.items

abbrev pub StandsInText : List ℕ → Lint → Type 0
StandsInText text (Faulty faults) = All (FaultLiesWithin text) faults.items
StandsInText text (OfSpelled l) = (m : MapValue) × (rows : List Row) × AllStand text m rows l

abbrev pub DiagnosticsStandInTheText : Type 0
DiagnosticsStandInTheText = (text : List ℕ) (l : Lint) → IsLint text l → StandsInText text l
