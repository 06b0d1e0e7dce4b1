-- Texts that are filled up behind their end.
use Rattle.std.specs.Prelude.{ℕ, ◌-◌, ◌==◌, Bool, List, length, take}
use Rattle.std.specs.List.{suffix_len}

abbrev pub is_filler : ℕ → ℕ → Bool
is_filler filler c = c == filler

-- the text without what fills it
unfoldable pub unfilled : ℕ → List ℕ → List ℕ
unfilled filler text = take (length text - suffix_len (is_filler filler) text) text
