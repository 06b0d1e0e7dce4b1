use Rattle.keymap_tables.proofs.Common.{ℕ, ◌<◌, AccentFits, MapValue, blank, narrow}
use Rattle.keymap_core.specs.Bounds.{IsMap}
use Rattle.std.specs.Prelude.{slice_index_or, ◌≡◌}
use Rattle.keymap_tables.specs.Image.{image}
use Rattle.keymap_tables.proofs.narrow.wide_accent.Given as goal

-- The rows so far fit.
abbrev pub invariant-loop-index : goal.invariant-loop-index
invariant-loop-index l =
    (m : MapValue) → IsMap m → l.tables.bytes.now ≡ image m → (i : ℕ) → i < l.index
    → AccentFits narrow (slice_index_or m.accents i blank)
