-- What the crates above may cite of these proofs. All else stands for this crate alone.
pub use Rattle.script_text.proofs.Comments.{IsInLine, comment-alone, comment-before, decimal-line, encoded-line}
pub use Rattle.script_text.proofs.Comments.{flat-line, in-line}
pub use Rattle.script_text.proofs.CoverScripts.{cover-sends, shows-cover}
pub use Rattle.script_text.proofs.KeyboardScripts.{shows-keyboard-cover}
