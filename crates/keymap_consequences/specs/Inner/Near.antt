-- The characters that one press types, and that the second of two types. Mirrors src/presses.rt.
use Rattle.std.specs.Prelude.{◌≡◌, ◌⊎◌, ◌↔◌, ◌<◌, ℕ, true}
use Rattle.std.specs.BTreeSet.{BTreeSet, contains}
use Rattle.std.specs.Ordering.{nat_cmp}
use Rattle.keymap_core.specs.Maps.{MapValue, cell_at}
use Rattle.keymap_core.specs.Numbers.{key_count}
use Rattle.keymap_core.specs.declared.action.Action.TheVariants as act
use Rattle.keymap_core.specs.declared.entry.Cell.{Cell}
use Rattle.keymap_core.specs.declared.entry.Cell.TheVariants.{Act}
use Rattle.console_core.specs.Answers.{usable}
use Rattle.console_core.specs.History.{answer_to, between}
use Rattle.console_core.specs.declared.event.Event.TheVariants.{Press}
use Rattle.console_scripts.specs.Typing.{IsYield, plainly}
use Rattle.keymap_consequences.specs.Consequences.{IsTypedByOne, IsTypedByTwo, before_second}
use Rattle.keymap_consequences.specs.declared.presses.Near.{Near}
use Rattle.keymap_consequences.specs.declared.taps.Taps.{Taps}

-- the one holds exactly where the old one or the new one does
abbrev pub Gains : (ℕ → Type 0) → (ℕ → Type 0) → (ℕ → Type 0) → Type 0
Gains old now new = (x : ℕ) → now x ↔ (old x ⊎ new x)

abbrev pub HasCharacter : BTreeSet ℕ → ℕ → Type 0
HasCharacter set c = contains nat_cmp set c ≡ true

-- a press of a key that looks up the cell changes what one behind it is answered
abbrev pub ChangesBy : MapValue → Cell → Type 0
ChangesBy m (Act (act.Mod i)) = Unit {0}
ChangesBy m (Act (act.Lock l)) = Unit {0}
ChangesBy m (Act (act.DeadKey i)) = usable m i ≡ true
ChangesBy m x = ⊥

abbrev pub Changes : MapValue → ℕ → Type 0
Changes m k = ChangesBy m (cell_at m k 0)

-- some press behind that of the key types the character
abbrev pub IsTypedBehind : MapValue → ℕ → ℕ → Type 0
IsTypedBehind m j c =
    (k : ℕ) × (k < key_count) × (answer_to (between m m) (before_second j k) (Press k) ≡ plainly c)

-- these are typed by presses behind those that change something
abbrev pub AreTypedSecond : MapValue → BTreeSet ℕ → Type 0
AreTypedSecond m set =
    (c : ℕ) → HasCharacter set c ↔ ((j : ℕ) × (j < key_count) × (Changes m j × IsTypedBehind m j c))

-- these are typed by one press, and by one or two
pub record AreNear (m : MapValue) (x : Near) : Type 0 where
  pub one : (c : ℕ) → HasCharacter x.by_one c ↔ IsTypedByOne m c
  pub two : (c : ℕ) → (HasCharacter x.by_one c ⊎ HasCharacter x.by_second c) ↔ IsTypedByTwo m c

-- what comes of taps under the map, and what takes few presses
abbrev pub AreTapsOf : MapValue → Taps → Type 0
AreTapsOf m x = IsYield m x.given × AreNear m x.near
