-- What the crates above may cite of these proofs. All else stands for this crate alone.
pub use Rattle.keymap_cover.proofs.Marking.{set-cases}
pub use Rattle.keymap_cover.proofs.Scripts.{all-off}
pub use Rattle.keymap_cover.proofs.Telling.{all-told, flat-has, flat-of, key-told, map-has, map-of, range-has}
pub use Rattle.keymap_cover.proofs.Telling.{range-of, usable-some}
