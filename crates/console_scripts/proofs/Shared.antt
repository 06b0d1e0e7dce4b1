-- What the crates above may cite of these proofs. All else stands for this crate alone.
pub use Rattle.console_scripts.proofs.Exploring.{path-append}
pub use Rattle.console_scripts.proofs.Marking.{gains-first, gains-more, gains-none, gains-same, gains-whole}
pub use Rattle.console_scripts.proofs.Scrolling.{shown-resting}
pub use Rattle.console_scripts.proofs.Tapping.{gains-insert}
pub use Rattle.console_scripts.proofs.Visitable.{seen_can_be_visited, start-near}
