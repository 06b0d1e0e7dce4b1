-- The types that this crate's definitions and proofs name most, with their variants, passed on from one place.
pub use Rattle.keymap_core.specs.declared.action.Action.TheVariants.{DeadKey}
pub use Rattle.keymap_core.specs.declared.entry.Cell.TheVariants.{Act}
pub use Rattle.keymap_core.specs.declared.entry.LockFlag.{LockFlag}
pub use Rattle.console_states.specs.declared.selection.Sight.{Sight}
pub use Rattle.keymap_diff.specs.declared.change.Change.{Change}
pub use Rattle.keymap_diff.specs.declared.change.Change.TheVariants.{Slots, Cell, Letter, Accents, Accent, Pair}
pub use Rattle.keymap_diff.specs.declared.change.Change.TheVariants.{ListedOtherwise}
pub use Rattle.keymap_diff.specs.declared.versions.Seen.{Seen}
pub use Rattle.keymap_diff.specs.declared.versions.Versions.{Versions}
