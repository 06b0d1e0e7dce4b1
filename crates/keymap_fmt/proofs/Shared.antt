-- What the crates above may cite of these proofs. All else stands for this crate alone.
pub use Rattle.keymap_fmt.proofs.Leading.{IsCut, trim_first}
pub use Rattle.keymap_fmt.proofs.Lines.{Line, lines_blank, lines_hash, lines_nil, lines_one, lines_token, same_lines}
unfoldable pub use Rattle.keymap_fmt.proofs.Lines.{lines_after}
pub use Rattle.keymap_fmt.proofs.Spelling.{keymap_stays, line_passed}
