-- What the crates above may cite of these proofs. All else stands for this crate alone.
pub use Rattle.keymap_diff.proofs.LastEvents.{told_lists_differ_at_last}
