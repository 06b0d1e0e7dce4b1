-- What the crates above may cite of these proofs. All else stands for this crate alone.
pub use Rattle.play_core.proofs.Spelling.{delivers, events-script, line-script, script-nil}
pub use Rattle.play_core.proofs.Verdicts.{one_list}
