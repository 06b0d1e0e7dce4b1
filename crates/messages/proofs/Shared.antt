-- What the crates above may cite of these proofs. All else stands for this crate alone.
pub use Rattle.messages.proofs.Filling.{filled-more}
pub use Rattle.messages.proofs.Passed.{EachPasses, append_all, decimal_all, decimal_passes, filled_all}
pub use Rattle.messages.proofs.Passed.{parts_all}
