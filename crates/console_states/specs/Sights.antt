-- What presses of keys see: which cells they look up, under which locks, and with which accents pending; and what can
-- be seen at all.
use Rattle.std.specs.Prelude.{◌≡◌, ◌≢◌, ◌==◌, ℕ, ◌<◌, Bool, true, false, ◌&&◌, not, List, ◌∷◌, ◌++◌, All, map}
use Rattle.std.specs.Prelude.{Some}
use Rattle.std.specs.List.{AllPairs, Contains, list_any, range_with_len}
use Rattle.console_states.specs.Types.{Modifier}
use Rattle.console_states.specs.Types.{Cell, Char, Act, Event, Press, Move, Selection, Sight, Offer}
use Rattle.console_states.specs.Types.{Sights}
use Rattle.keymap_core.specs.declared.action.Action.TheVariants as act
use Rattle.keymap_core.specs.Maps.{MapValue, entry_at, cell_at}
use Rattle.keymap_core.specs.Numbers.{key_count}
use Rattle.console_states.specs.declared.selection.Sight.TheVariants as sight
use Rattle.console_core.specs.Answers.{usable}
use Rattle.console_core.specs.Columns.{exactly_one, flips_shift, slot_of, column_of}
use Rattle.console_core.specs.Resolved.{remembered}
use Rattle.console_core.specs.History.{Maps, between, resolved, accent_pending_after}
use Rattle.console_core.specs.History.{HasKeys, HasNoLoads}
use Rattle.console_core.specs.Reading.{look_after}
use Rattle.console_states.specs.Moves.{Under, alone, State, IsIdle, IsMade, IsForgetful, IsPath, state_after}
use Rattle.console_states.specs.Sticking.{NeverForgets, IsPressOrRelease, ReleasesPressedKeys, selection_behind}
pub use Rattle.console_states.specs.Moves.{selection_with, selection_of}

-- the slot, the column and the cell that a key looks up
abbrev pub slot_in : Selection → ℕ → ℕ
slot_in y k = slot_of k y.upper

abbrev pub column_in : MapValue → Selection → ℕ → ℕ
column_in m y k =
    column_of (exactly_one y.shift (flips_shift (entry_at m (slot_in y k)).flag y.caps y.num)) y.control y.alt

abbrev pub look_selected : MapValue → Selection → ℕ → Cell
look_selected m y k = cell_at m (slot_in y k) (column_in m y k)

-- a press of the key sees it, where a pair's accent is pending
abbrev pub SeesBy : MapValue → Selection → ℕ → Sight → Type 0
SeesBy m y k (sight.Cell slot column) = (slot_in y k ≡ slot) × (column_in m y k ≡ column)
SeesBy m y k (sight.Locks slot caps num) = (slot_in y k ≡ slot) × (y.caps ≡ caps) × (y.num ≡ num)
SeesBy m y k (sight.Pair accent c) = look_selected m y k ≡ Char c

-- the selection after a list of events
abbrev pub selection_after : MapValue → List Event → Selection
selection_after m h = selection_behind (between m m) h

-- the accent of a pair is pending
abbrev pub IsPendingFor : MapValue → List Event → Sight → Type 0
IsPendingFor m h (sight.Pair accent c) = accent_pending_after (between m m) h ≡ Some accent
IsPendingFor m h _ = Unit {0}

-- a press of the key after the list sees it
abbrev pub SeesNext : MapValue → List Event → ℕ → Sight → Type 0
SeesNext m h k x = SeesBy m (selection_after m h) k x × IsPendingFor m h x

-- some press of the list sees it
abbrev pub SeesAlong : MapValue → List Event → Sight → Type 0
SeesAlong m h x =
    (later before : List Event) × (k : ℕ) × (h ≡ later ++ Press k ∷ before) × SeesNext m before k x

-- A press after a list of events without loads looks up the cell at this slot and column.
abbrev pub LooksAreSelected : Type 0
LooksAreSelected =
    (m : MapValue) (h : List Event) (k : ℕ) → look_after (between m m) k h ≡ look_selected m (selection_after m h) k

-- Clean: along the list no key that remembers a modifier looks up a character, which makes the console forget it.
abbrev pub IsClean : Maps → List Event → Type 0
IsClean ms h =
    (later before : List Event) (k : ℕ) (i : Modifier) (c : ℕ) → h ≡ later ++ Press k ∷ before
    → remembered k (resolved ms before) ≡ Some (act.Mod i) → look_after ms k before ≡ Char c
    → ⊥

-- The lists that are spoken of: presses and releases of keys and resets, and clean ones alone if a modifier can be
-- forgotten.
abbrev pub IsAdmitted : MapValue → Bool → List Event → Type 0
IsAdmitted m forgets h = HasKeys h × HasNoLoads h × (forgets ≡ true → IsClean (between m m) h)

-- the key holds nothing, and a press of it, which is allowed, looks up the dead key of the accent
abbrev pub Offers : Under → State → ℕ → ℕ → Type 0
Offers u s k accent = IsIdle s k × IsMade u s k (Act (act.DeadKey accent))

-- The accent is offered in the state: it is usable, and some key offers it, so that a tap of the key leaves it pending.
-- A dead key of an accent whose own character is 0 is an error, and drops what is pending.
abbrev pub IsOfferedIn : Under → State → ℕ → Type 0
IsOfferedIn u s accent = (usable u.maps.first accent ≡ true) × ((k : ℕ) × (k < key_count) × Offers u s k accent)

-- The accent is offered in a state that the path leads through. Once pending it stays so along the rest: moves are
-- presses and releases of keys that hold modifiers or turn locks, and none of these drops an accent.
abbrev pub IsOfferedAlong : Under → List Move → ℕ → Type 0
IsOfferedAlong u path accent =
    (later before : List Move) × (path ≡ later ++ before) × IsOfferedIn u (state_after u before) accent

-- the accent of a pair can be pending at the end of the path
abbrev pub CanPend : MapValue → List Move → Sight → Type 0
CanPend m path (sight.Pair accent c) = IsOfferedAlong (alone m) path accent
CanPend m path _ = Unit {0}

-- A sight can be seen: moves lead from the start to a state where a press of some key sees it, and a pair's accent can
-- be pending there.
abbrev pub IsReachable : MapValue → Sight → Type 0
IsReachable m x =
    (path : List Move) × IsPath (alone m) path × CanPend m path x
    × ((k : ℕ) × (k < key_count) × SeesBy m (selection_of (state_after (alone m) path)) k x)

-- What moves lead to: a selection, a state that offers an accent, a selection where an accent can be pending, and a
-- state where a holder looks up a character.
abbrev pub CanSelect : MapValue → Selection → Type 0
CanSelect m y = (path : List Move) × IsPath (alone m) path × (selection_of (state_after (alone m) path) ≡ y)

abbrev pub CanOffer : MapValue → ℕ → Type 0
CanOffer m accent =
    (path : List Move) × IsPath (alone m) path × IsOfferedIn (alone m) (state_after (alone m) path) accent

abbrev pub CanCompose : MapValue → ℕ → Selection → Type 0
CanCompose m accent y =
    (path : List Move) × IsPath (alone m) path × IsOfferedAlong (alone m) path accent
    × (selection_of (state_after (alone m) path) ≡ y)

abbrev pub CanForget : MapValue → Type 0
CanForget m = (path : List Move) × IsPath (alone m) path × IsForgetful (alone m) (state_after (alone m) path)

-- no two elements are the same
abbrev pub HasNoDoubles : {X : Type 0} → List X → Type 0
HasNoDoubles xs = AllPairs (λ x y. x ≢ y) xs

-- the list is all of which P holds
pub record Lists {X : Type 0} (P : X → Type 0) (xs : List X) : Type 0 where
  pub all : (x : X) → P x → Contains xs x
  pub only : (x : X) → Contains xs x → P x

-- and each once
pub record Enumerates {X : Type 0} (P : X → Type 0) (xs : List X) : Type 0 where
  pub all : (x : X) → P x → Contains xs x
  pub only : (x : X) → Contains xs x → P x
  pub once : HasNoDoubles xs

abbrev pub accents_in : List Offer → List ℕ
accents_in offers = map (λ o. o.accent) offers

-- What a search found is all that moves lead to.
pub record AreSightsOf (m : MapValue) (x : Sights) : Type 0 where
  pub selections : Lists (CanSelect m) x.selections.items
  pub accents : Lists (CanOffer m) (accents_in x.offers.items)
  pub composing : (o : Offer) → Contains x.offers.items o → Lists (CanCompose m o.accent) o.selections.items
  pub forgets : (x.forgets ≡ true → CanForget m) × (CanForget m → x.forgets ≡ true)

-- Under each selection that is offered with an accent the accent can be pending.
abbrev pub AreComposed : MapValue → List Offer → Type 0
AreComposed m offers =
    (o : Offer) → Contains offers o → (y : Selection) → Contains o.selections.items y → CanCompose m o.accent y

-- What was found is some of what moves lead to.
pub record AreSomeSights (m : MapValue) (x : Sights) : Type 0 where
  pub selections : (y : Selection) → Contains x.selections.items y → CanSelect m y
  pub composing : AreComposed m x.offers.items
  pub forgets : x.forgets ≡ true → CanForget m

-- What a press after a list sees can be seen: after all lists if no path leads to where a holder looks up a character,
-- and else after clean ones.
abbrev pub SightsAreReachable : Type 0
SightsAreReachable =
    (m : MapValue) (forgets : Bool) (h : List Event) (k : ℕ) (x : Sight) → (forgets ≡ false → NeverForgets (alone m))
    → IsAdmitted m forgets h → k < key_count → SeesNext m h k x
    → IsReachable m x

-- What can be seen is seen by a press after a clean list of presses and releases.
abbrev pub ReachableIsSeen : Type 0
ReachableIsSeen =
    (m : MapValue) (x : Sight) → IsReachable m x
    → (h : List Event) × (k : ℕ) × All IsPressOrRelease h × ReleasesPressedKeys h × IsAdmitted m true h
    × (k < key_count) × SeesNext m h k x

-- What a press sees, as tests.
abbrev pub is_same : Bool → Bool → Bool
is_same a b = not (exactly_one a b)

abbrev pub is_character : ℕ → Cell → Bool
is_character c (Char d) = d == c
is_character c (Act a) = false

-- whether a press of the key sees it under the selection, where a pair's accent is pending
abbrev pub sees_by : MapValue → Selection → ℕ → Sight → Bool
sees_by m y k (sight.Cell slot column) = (slot_in y k == slot) && (column_in m y k == column)
sees_by m y k (sight.Locks slot caps num) = (slot_in y k == slot) && (is_same y.caps caps && is_same y.num num)
sees_by m y k (sight.Pair accent c) = is_character c (look_selected m y k)

-- whether a press of some key sees the sight
abbrev pub is_seeing : MapValue → Selection → Sight → Bool
is_seeing m y x = list_any (λ k. sees_by m y k x) (range_with_len 0 key_count)

-- whether a press of some key sees the sight under one of the selections
abbrev pub is_selected : MapValue → List Selection → Sight → Bool
is_selected m ys x = list_any (λ y. is_seeing m y x) ys

-- whether some key sees the sight under a selection where the accent can be pending
abbrev pub is_composed : MapValue → List Offer → ℕ → Sight → Bool
is_composed m offers accent x = list_any (λ o. (o.accent == accent) && is_selected m o.selections.items x) offers

-- whether the sight can be seen, by what a search found
abbrev pub can_see : MapValue → Sights → Sight → Bool
can_see m s (sight.Pair accent c) = is_composed m s.offers.items accent (sight.Pair accent c)
can_see m s x = is_selected m s.selections.items x
