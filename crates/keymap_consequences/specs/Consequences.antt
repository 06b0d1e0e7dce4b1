-- The consequences of a change of a keymap, m before it and n behind it, for who checks a keymap and who types with it.
use Rattle.std.specs.Prelude.{◌≡◌, ◌⊎◌, ◌↔◌, ◌<◌, ◌==◌, ℕ, IsTrue, List, [], ◌∷◌, All, MatchOption, if◌then◌else◌}
use Rattle.keymap_core.specs.Actions.{IsAction, code_of, holding_index}
use Rattle.keymap_core.specs.Bearers.{Bears}
use Rattle.keymap_core.specs.Maps.{MapValue, cell_at}
use Rattle.keymap_core.specs.Numbers.{key_count}
use Rattle.keymap_core.specs.declared.action.Action.{Action}
use Rattle.keymap_core.specs.declared.action.Holding.{Holding}
use Rattle.keymap_core.specs.declared.entry.Cell.TheVariants.{Char}
use Rattle.console_core.specs.Headline.{IsSafe}
use Rattle.console_core.specs.History.{answer_to, between}
use Rattle.console_core.specs.declared.event.Event.{Event}
use Rattle.console_core.specs.declared.event.Event.TheVariants.{Press, Release}
use Rattle.console_scripts.specs.Typing.{CanType, Gives, IsTypingError, plainly}
use Rattle.console_scripts.specs.declared.typing.TypingError.TheVariants.{NoWay}
use Rattle.console_states.specs.Moves.{alone}
use Rattle.console_states.specs.Sticking.{ReachesMoreThan, state_limit}
use Rattle.keymap_check.specs.Findings.{IsFinding, IsUnsafeKey}
use Rattle.keymap_check.specs.declared.finding.Finding.{Finding}
use Rattle.keymap_consequences.specs.Lists.{ListsInOrder, StandForEach}
use Rattle.keymap_consequences.specs.declared.consequences.Consequences.{Consequences}
use Rattle.keymap_consequences.specs.declared.bearing.Bearing.{Bearing}
use Rattle.keymap_consequences.specs.declared.refused.Refused.{Refused}
use Rattle.keymap_consequences.specs.declared.taps.TapChanges.{TapChanges}

-- ---- keys that the check names

-- the check names the key, with its first modifier or lock and its first character
abbrev pub IsRefused : MapValue → Refused → Type 0
IsRefused m r =
    (f : Finding) × IsFinding m f × (f.key ≡ r.key) × (f.holding ≡ r.holding)
    × (cell_at m f.character_at.slot f.character_at.column ≡ Char r.character)

-- it names the key under n and not under m
abbrev pub IsUnsafeAlone : MapValue → MapValue → ℕ → Type 0
IsUnsafeAlone m n k = (k < key_count) × IsUnsafeKey n k × (IsUnsafeKey m k → ⊥)

-- These are the keys that it names under n and not under m, as it does under n.
abbrev pub AreRefusedAlone : MapValue → MapValue → List Refused → Type 0
AreRefusedAlone m n rs =
    StandForEach (λ r. r.key) (λ r. IsRefused n r × IsUnsafeAlone m n r.key) (IsUnsafeAlone m n) rs

-- ---- keys that bear a modifier or lock

-- the keys that bear it, in any cell that counts for the check
abbrev pub AreBearers : MapValue → Holding → List ℕ → Type 0
AreBearers m a ks = ListsInOrder (λ k. k) (λ k. (k < key_count) × Bears m k a) ks

-- not the same keys bear it
abbrev pub IsBorneOtherwise : MapValue → MapValue → Holding → Type 0
IsBorneOtherwise m n a = ((k : ℕ) → k < key_count → Bears m k a ↔ Bears n k a) → ⊥

-- its bearers under both
abbrev pub IsBearing : MapValue → MapValue → Bearing → Type 0
IsBearing m n b =
    AreBearers m b.holding b.old.items × AreBearers n b.holding b.new.items × IsBorneOtherwise m n b.holding

-- These are the bearers of each modifier and lock that not the same keys bear.
abbrev pub AreBearings : MapValue → MapValue → List Bearing → Type 0
AreBearings m n bs =
    StandForEach (λ b. holding_index b.holding) (IsBearing m n)
    (λ i. (a : Holding) × (holding_index a ≡ i) × IsBorneOtherwise m n a) bs

-- ---- how many presses type a character

-- one press types it: a new console answers it to some press
abbrev pub IsTypedByOne : MapValue → ℕ → Type 0
IsTypedByOne m c = (k : ℕ) × (k < key_count) × (answer_to (between m m) [] (Press k) ≡ plainly c)

-- what comes before the second of two presses: the first, and where both are of one key, its release
abbrev pub before_second : ℕ → ℕ → List Event
before_second j k = if j == k then Release j ∷ Press j ∷ [] else Press j ∷ []

-- one press types it, or the second of two
abbrev pub IsTypedByTwo : MapValue → ℕ → Type 0
IsTypedByTwo m c =
    IsTypedByOne m c
    ⊎ ((j k : ℕ) × (j < key_count) × (k < key_count)
    × (answer_to (between m m) (before_second j k) (Press k) ≡ plainly c))

-- one press types it under m and not under n, or one or two presses do
abbrev pub TakesMore : MapValue → MapValue → ℕ → Type 0
TakesMore m n c =
    (IsTypedByOne m c × (IsTypedByOne n c → ⊥)) ⊎ (IsTypedByTwo m c × (IsTypedByTwo n c → ⊥))

-- ---- what comes of taps

abbrev pub IsTypedAlone : MapValue → MapValue → ℕ → Type 0
IsTypedAlone m n c = CanType m c × (CanType n c → ⊥)

abbrev pub IsFarther : MapValue → MapValue → ℕ → Type 0
IsFarther m n c = CanType m c × CanType n c × TakesMore m n c

-- it is one of the actions that there are
abbrev pub IsGivenAlone : MapValue → MapValue → Action → Type 0
IsGivenAlone m n a = IsAction a × Gives m a × (Gives n a → ⊥)

abbrev pub AreCharacters : (ℕ → Type 0) → List ℕ → Type 0
AreCharacters P cs = ListsInOrder (λ c. c) P cs

-- The characters that keys can type under one keymap alone, those that they can under both and that take more presses
-- or fewer of at most two, and the actions that a tap gives under one alone.
pub record AreTapChanges (m n : MapValue) (x : TapChanges) : Type 0 where
  pub types_no_longer : AreCharacters (IsTypedAlone m n) x.types_no_longer.items
  pub types_now : AreCharacters (IsTypedAlone n m) x.types_now.items
  pub more_presses : AreCharacters (IsFarther m n) x.more_presses.items
  pub fewer_presses : AreCharacters (IsFarther n m) x.fewer_presses.items
  pub gives_no_longer : ListsInOrder code_of (IsGivenAlone m n) x.gives_no_longer.items
  pub gives_now : ListsInOrder code_of (IsGivenAlone n m) x.gives_now.items

-- ---- all of them

-- more states can be reached under the keymap than a search goes over
abbrev pub GivesUp : MapValue → Type 0
GivesUp m = (p : ℕ) × ReachesMoreThan (alone m) state_limit p

-- What comes of taps is told unless the search of one of the keymaps gives up.
pub record AreConsequences (m n : MapValue) (x : Consequences) : Type 0 where
  pub was_accepted : IsTrue x.was_accepted ↔ IsSafe m
  pub is_accepted : IsTrue x.is_accepted ↔ IsSafe n
  pub refused_no_longer : AreRefusedAlone n m x.refused_no_longer.items
  pub refused_now : AreRefusedAlone m n x.refused_now.items
  pub bearings : AreBearings m n x.bearings.items
  pub taps : MatchOption x.taps (GivesUp m ⊎ GivesUp n) (AreTapChanges m n)

-- ---- sentences

-- Where no character is among those that keys can type no longer, no sentence that they could type is refused since they
-- can't type one of its characters.
abbrev pub SentencesStay : Type 0
SentencesStay =
    (m n : MapValue) (x : TapChanges) → AreTapChanges m n x → x.types_no_longer.items ≡ []
    → (cs : List ℕ) → All (λ c. CanType m c) cs → (k : ℕ) → IsTypingError n cs (NoWay k) → ⊥
