-- What the crates above may cite of these proofs. All else stands for this crate alone.
pub use Rattle.keymap_tables.proofs.Images.{same-map}
pub use Rattle.keymap_tables.proofs.ReadingLaws.{map-wide, no-fault}
