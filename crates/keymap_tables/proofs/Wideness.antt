-- Where the characters above 255 of a map stand.
use Rattle.keymap_tables.proofs.Common.{common_steps, rules, ℕ, ◌+◌, ◌*◌, ◌<◌, ◌≤◌, suc, arith, mul-suc, All}
use Rattle.keymap_tables.proofs.Common.{mul-le-mul_left, AccentValue, blank, MapValue, undefined, entry_at, Entry}
use Rattle.keymap_tables.proofs.Common.{EntryFits, AccentFits, FitsIn, character_in, number_in, narrow}
use Rattle.keymap_tables.specs.Fits.{IsWide, IsFirstWide, place_of}
use Rattle.keymap_tables.specs.Inner.Firsts.{IsFirstWideRow}
use Rattle.keymap_tables.specs.declared.narrow.Wide.{Wide}
use Rattle.keymap_tables.proofs.Sizes.{All-at}
use Rattle.keymap_tables.proofs.AtPlaces.{undefined-fits}
use Rattle.keymap_tables.specs.declared.narrow.Wide.TheVariants as at

-- each character of an entry that fits is at most 255
entry-small : (entry : Entry) (k : ℕ) → EntryFits narrow entry → character_in entry k ≤ 255
entry-small entry k fits = grind (arith, common_steps)

-- each number of an accent that fits is at most 255
accent-small : (accent : AccentValue) (k : ℕ) → AccentFits narrow accent → number_in accent k ≤ 255
accent-small accent k fits = grind (arith, common_steps)

-- where all entries fit, the characters of each slot are at most 255, also past the last one
cells-small : (m : MapValue) (s k : ℕ) → All (EntryFits narrow) m.entries → character_in (entry_at m s) k ≤ 255
cells-small m s k fits =
    entry-small (entry_at m s) k (All-at (EntryFits narrow) m.entries undefined s (undefined-fits narrow) fits)

-- The first number above 255 of rows of one size: none of the rows before it has one, and none stands before it in its
-- own.
least : (value : ℕ → ℕ → ℕ) (size s c : ℕ) → c < size → ((t : ℕ) → t < s → (k : ℕ) → value t k ≤ 255)
    → ((k : ℕ) → k < c → value s k ≤ 255) → (t k : ℕ) → 255 < value t k → size * s + c ≤ size * t + k
least value size s c inside rows before t k wide =
    grind (arith, rows t, before k, mul-le-mul_left {m = suc s} {n = t} size, mul-suc size s)

-- the first character above 255 of the first entry that doesn't fit is the first of the map
pub first-cell : (m : MapValue) (s column : ℕ) → s < 256
    → IsFirstWideRow (EntryFits narrow) character_in 10 m.entries undefined s column → IsFirstWide m (at.Cell s column)
first-cell m s column few found = search (rules, least, entry-small)

-- where the cells fit, the first number above 255 of the first accent that doesn't fit is the first of the map
pub first-number : (m : MapValue) (i number : ℕ) → All (EntryFits narrow) m.entries
    → IsFirstWideRow (AccentFits narrow) number_in 105 m.accents blank i number → IsFirstWide m (at.Accent i number)
first-number m i number cells found = record { here = found.here.here; first = behind }
  where
    behind : (v : Wide) → IsWide m v → place_of (at.Accent i number) ≤ place_of v
    behind (at.Cell t k) wide = absurd (omega (arith, wide, cells-small m t k cells))
    behind (at.Accent j k) wide = grind (arith, common_steps)

-- A map that fits has no character above 255.
pub fits-no-wide : (m : MapValue) (w : Wide) → FitsIn narrow m → IsWide m w → ⊥
fits-no-wide m (at.Cell slot column) fits wide =
    absurd (omega (arith, wide, cells-small m slot column fits.entries))
fits-no-wide m (at.Accent accent number) fits wide = grind (arith, common_steps)
