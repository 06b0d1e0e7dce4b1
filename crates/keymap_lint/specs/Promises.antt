-- What the diagnostics of a text promise: of the keymap that it spells, and of its faults.
use Rattle.std.specs.Prelude.{◌≡◌, ◌⊎◌, ℕ, ◌<◌, ◌≤◌, Bool, true, false, List, length, map, slice_get, All, Some, ⊤}
use Rattle.std.specs.List.{list_any}
use Rattle.std.specs.List.Sorted.{IsStrictlyIncreasing}
use Rattle.keymap_core.specs.Maps.{MapValue}
use Rattle.console_core.specs.Headline.{IsSafe}
use Rattle.console_states.specs.Sticking.{NeverSticks}
use Rattle.keymap_text.specs.Meaning.{Fault, Spells, line}
use Rattle.keymap_lint.specs.Types.{Diagnostic, Kind, Lint, Faulty, PlacedFault, Spelled}
use Rattle.keymap_lint.specs.declared.diagnostic.Kind.TheVariants.{MixedKey, HalfDefined}
use Rattle.keymap_lint.specs.Lists.{IsLint}
use Rattle.keymap_lint.specs.Directives.{HasNoMark}
use Rattle.keymap_lint.specs.Severities.{has_error, never_sticks}

-- A text of which no diagnostic is an error spells a keymap under which no list of presses and releases leaves a
-- modifier on.
abbrev pub WellTextsNeverStick : Type 0
WellTextsNeverStick =
    (text : List ℕ) (l : Lint) → IsLint text l → has_error l ≡ false → (m : MapValue) × Spells text m × NeverSticks m

-- the diagnostic names a key that is a modifier or lock and has a character
abbrev pub names_a_key : Kind → Bool
names_a_key (MixedKey finding character) = true
names_a_key (HalfDefined selector has_keys) = has_keys
names_a_key _ = false

abbrev pub names_keys : Lint → Bool
names_keys (Faulty faults) = false
names_keys (Spelled l) = list_any (λ (d : Diagnostic). names_a_key d.kind) l.list.items

-- Directives keep back nothing that names such a key: some modifier may stay on, or `kmap:` stands nowhere.
abbrev pub NamesEachKey : List ℕ → Lint → Type 0
NamesEachKey text (Faulty faults) = ⊤
NamesEachKey text (Spelled l) = (never_sticks l.sticking ≡ false) ⊎ HasNoMark text

-- No diagnostic of a text names such a key if the keymap is accepted, and some diagnostic does if it is refused.
abbrev pub KeysAreNamedExactlyIfRefused : Type 0
KeysAreNamedExactlyIfRefused =
    (text : List ℕ) (m : MapValue) (l : Lint) → Spells text m → IsLint text l
    → (IsSafe m → names_keys l ≡ false) × (NamesEachKey text l → names_keys l ≡ false → IsSafe m)

-- At most 21 faults, the first one of which is that of the text. Each other one stands in a later line than the one
-- before it, and so behind it.
pub record AreInOrder (text : List ℕ) (faults : List PlacedFault) : Type 0 where
  pub few : length faults ≤ 21
  pub some : 0 < length faults
  pub first : (f : PlacedFault) → slice_get faults 0 ≡ Some f → Fault text f.fault
  pub lines : All (λ (f : PlacedFault). f.fault.line ≡ line text f.fault.offset) faults
  pub later : IsStrictlyIncreasing (map (λ (f : PlacedFault). f.fault.line) faults)
  pub behind : IsStrictlyIncreasing (map (λ (f : PlacedFault). f.fault.offset) faults)

abbrev pub FaultsInOrder : List ℕ → Lint → Type 0
FaultsInOrder text (Faulty faults) = AreInOrder text faults.items
FaultsInOrder text (Spelled l) = ⊤

abbrev pub FaultsAreInOrder : Type 0
FaultsAreInOrder = (text : List ℕ) (l : Lint) → IsLint text l → FaultsInOrder text l
