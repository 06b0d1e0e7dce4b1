-- Which characters are of scripts with large signs, by Unicode's blocks.
use Rattle.std.specs.Prelude.{ℕ, Bool, List, [], ◌∷◌}
use Rattle.std.specs.List.{list_any}
use Rattle.keymap_core.specs.Actions.{within}

-- the first code point and the last of each block of a script many of whose signs are wider or lower than others
abbrev pub large_blocks : List (ℕ × ℕ)
large_blocks =
    -- Oriya, Tamil, Telugu, Kannada, Malayalam, Sinhala
    (0xb00, 0xb7f) ∷ (0xb80, 0xbff) ∷ (0xc00, 0xc7f) ∷ (0xc80, 0xcff) ∷ (0xd00, 0xd7f) ∷ (0xd80, 0xdff)
    -- Tibetan, Myanmar, Khmer and its symbols, Javanese
    ∷ (0xf00, 0xfff) ∷ (0x1000, 0x109f) ∷ (0x1780, 0x17ff) ∷ (0x19e0, 0x19ff) ∷ (0xa980, 0xa9df) ∷ []

unfoldable pub is_large : ℕ → Bool
is_large c = list_any (λ block. within block.0 block.1 c) large_blocks
