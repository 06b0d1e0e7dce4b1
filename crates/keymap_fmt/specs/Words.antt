-- Words in a text and in its layout.
use Rattle.std.specs.Prelude.{◌≡◌, ℕ, ◌+◌, ◌<◌, ◌≤◌, false, List, length, slice_index, All}
use Rattle.keymap_text.specs.Lexical.{is_blank}
use Rattle.keymap_fmt.specs.Formatted.{formatted}

-- The word stands in the bytes, so many before it.
pub record StandsIn (bytes word : List ℕ) (before : ℕ) : Type 0 where
  pub within : before + length word ≤ length bytes
  pub reads : (j : ℕ) → j < length word → slice_index bytes (before + j) ≡ slice_index word j

-- A word without blanks that stands nowhere in a text stands nowhere in its layout.
abbrev pub LayoutsHaveNoNewWords : Type 0
LayoutsHaveNoNewWords =
    (text word : List ℕ) → 0 < length word → All (λ c. is_blank c ≡ false) word
    → ((k : ℕ) → StandsIn text word k → ⊥) → (k : ℕ) → StandsIn (formatted text) word k → ⊥
