use Rattle.keymap_tables.proofs.Common.{ℕ, ◌<◌, EntryFits, MapValue, undefined, narrow}
use Rattle.keymap_core.specs.Bounds.{IsMap}
use Rattle.std.specs.Prelude.{slice_index_or, ◌≡◌}
use Rattle.keymap_tables.specs.Image.{image}
use Rattle.keymap_tables.proofs.narrow.wide_slot.Given as goal

-- The rows so far fit.
abbrev pub invariant-loop-slot : goal.invariant-loop-slot
invariant-loop-slot l =
    (m : MapValue) → IsMap m → l.tables.bytes.now ≡ image m → (i : ℕ) → i < l.slot
    → EntryFits narrow (slice_index_or m.entries i undefined)
