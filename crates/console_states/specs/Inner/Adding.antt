-- What is added of the states that a search met, or of a few. Mirrors src/sights.rt and src/offers.rt.
use Rattle.std.specs.Prelude.{◌≡◌, ◌<◌, ◌⊎◌, ℕ, Bool, true, List, length, [], ◌∷◌, ◌++◌, Some, slice_get}
use Rattle.std.specs.List.{Contains}
use Rattle.keymap_core.specs.Maps.{MapValue}
use Rattle.keymap_core.specs.Numbers.{key_count}
use Rattle.console_states.specs.Types.{Selection, Sight, Offer}
use Rattle.console_states.specs.declared.held.Held.{Held}
use Rattle.console_core.specs.Answers.{usable}
use Rattle.console_states.specs.Moves.{Under, State, alone, minding, start}
use Rattle.console_states.specs.Returning.{IsUnlocked}
use Rattle.console_states.specs.Sights.{CanCompose, CanSelect, Offers, IsOfferedIn, Lists}
use Rattle.console_states.specs.Sights.{accents_in, selection_of, SeesBy}
use Rattle.console_states.specs.Searching.{state_of, Entry, Entries, Searched}

-- the list has x, which was added unless it was there
abbrev pub IsWith : {X : Type 0} → X → List X → List X → Type 0
IsWith x old now = ((now ≡ old) × Contains old x) ⊎ (now ≡ old ++ x ∷ [])

-- What was added is all of which P holds, and nothing else.
pub record Adds {X : Type 0} (P : X → Type 0) (old now : List X) : Type 0 where
  pub kept : (x : X) → Contains old x → Contains now x
  pub all : (x : X) → P x → Contains now x
  pub only : (x : X) → Contains now x → Contains old x ⊎ P x

-- Q holds in a state that was met, below the place
abbrev pub IsInSome : Entries → ℕ → (State → Type 0) → Type 0
IsInSome es n Q = (j : ℕ) × (x : Entry) × (slice_get es j ≡ Some x) × (j < n) × Q (state_of x.0)

-- the state has the selection, and the minded accent is pending there or not
abbrev pub HasSelection : Bool → Selection → State → Type 0
HasSelection is_pending y s = (s.is_pending ≡ is_pending) × (selection_of s ≡ y)

-- the selections are those of the states that were met where it is pending, or where it isn't
abbrev pub AreSelectionsOf : Bool → Entries → List Selection → Type 0
AreSelectionsOf is_pending es ys = Lists (λ y. IsInSome es (length es) (HasSelection is_pending y)) ys

-- the usable accent of this key was added
abbrev pub AddsOffer : Under → State → ℕ → List ℕ → List ℕ → Type 0
AddsOffer u s k old now = Adds (λ a. (usable u.maps.first a ≡ true) × Offers u s k a) old now

-- the usable accents of the keys below n were added
abbrev pub AddsOffers : Under → State → ℕ → List ℕ → List ℕ → Type 0
AddsOffers u s n old now =
    Adds (λ a. (usable u.maps.first a ≡ true) × ((k : ℕ) × (k < n) × Offers u s k a)) old now

-- the accents are those that are offered in the states that were met
abbrev pub AreAccentsOf : Under → Entries → List ℕ → Type 0
AreAccentsOf u es accents = Lists (λ a. IsInSome es (length es) (λ s. IsOfferedIn u s a)) accents

-- no lock is on in the state, and some key offers the accent
abbrev pub OffersUnlocked : Under → State → ℕ → Type 0
OffersUnlocked u s accent = IsUnlocked s × ((k : ℕ) × (k < key_count) × Offers u s k accent)

-- so it is in a state that was met
abbrev pub IsOfferedUnlocked : Under → Entries → ℕ → Type 0
IsOfferedUnlocked u es accent =
    (j : ℕ) × (x : Entry) × (slice_get es j ≡ Some x) × OffersUnlocked u (state_of x.0) accent

-- moves lead to each of the selections
abbrev pub CanSelectEach : MapValue → List Selection → Type 0
CanSelectEach m ys = (y : Selection) → Contains ys y → CanSelect m y

-- each of the accents is usable, and offered in one of the states where no lock is on
abbrev pub AreUnlocked : Under → List Held → List ℕ → Type 0
AreUnlocked u states accents =
    (a : ℕ) → Contains accents a
    → (usable u.maps.first a ≡ true) × ((h : Held) × Contains states h × OffersUnlocked u (state_of h) a)

-- a search that minds the accent met all states that moves lead to
abbrev pub AreMinded : MapValue → ℕ → Entries → Type 0
AreMinded m accent es = Searched (minding (alone m) accent) (start ∷ []) es (length es) (length es)

-- the offers are those of the accents
pub record AreOffersOf (m : MapValue) (accents : List ℕ) (offers : List Offer) : Type 0 where
  pub all : accents_in offers ≡ accents
  pub each : (o : Offer) → Contains offers o → Lists (CanCompose m o.accent) o.selections.items

-- a press of some key sees the sight under one of the selections
abbrev pub IsSelectedBy : MapValue → List Selection → Sight → Type 0
IsSelectedBy m selections x =
    (y : Selection) × Contains selections y × ((k : ℕ) × (k < key_count) × SeesBy m y k x)

-- a press of some key sees the sight under a selection where the accent can be pending
abbrev pub IsComposedBy : MapValue → List Offer → ℕ → Sight → Type 0
IsComposedBy m offers accent x =
    (o : Offer) × Contains offers o × (o.accent ≡ accent) × IsSelectedBy m o.selections.items x
