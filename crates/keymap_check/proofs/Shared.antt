-- What the crates above may cite of these proofs. All else stands for this crate alone.
pub use Rattle.keymap_check.proofs.Demonstrated.{demonstrations_leave_modifiers_on}
