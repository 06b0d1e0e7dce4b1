-- The map that the parts of a file show while they are filled: its rows, and how many of them are in use.
use Rattle.std.specs.Prelude.{◌≡◌, ℕ, ◌-◌, List, ◌++◌, length, map, replicate}
use Rattle.keymap_core.specs.Accents.{blank}
use Rattle.keymap_core.specs.Bounds.{IsMap}
use Rattle.keymap_core.specs.Maps.{MapValue, undefined}
use Rattle.keymap_core.specs.Numbers.{slot_limit, accent_limit}
use Rattle.keymap_tables.specs.Image.{count_bytes, slot_bytes, accent_bytes}
use Rattle.keymap_tables.specs.Types.{Layout}

-- the rows of a list, and blank ones up to a number
abbrev pub rows : {X : Type 0} → (X → List ℕ) → X → ℕ → List X → List (List ℕ)
rows f x n xs = map f (xs ++ replicate (n - length xs) x)

pub record Filled (l : Layout) (n_keys : List ℕ) (slots : List (List ℕ)) (n_accs : List ℕ) (accents : List (List ℕ))
    (m : MapValue) : Type 0 where
  pub known : IsMap m
  pub n_keys_are : n_keys ≡ count_bytes l (length m.entries)
  pub slots_are : slots ≡ rows (slot_bytes l) undefined slot_limit m.entries
  pub n_accs_are : n_accs ≡ count_bytes l (length m.accents)
  pub accents_are : accents ≡ rows (accent_bytes l) blank accent_limit m.accents
