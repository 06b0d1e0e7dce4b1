-- What the crates above may cite of these proofs. All else stands for this crate alone.
pub use Rattle.keymap_names.proofs.Lines.{accent_line, accents_line, all_seen, ascii, code_line, code_text_line}
pub use Rattle.keymap_names.proofs.Lines.{decimal_line, digit_printed, either, fills, itself, line_chars, line_cons}
pub use Rattle.keymap_names.proofs.Lines.{line_each, line_flat, line_if, line_none, lock_line, modifier_line}
pub use Rattle.keymap_names.proofs.Lines.{name_line, named, next_given, ranges_line, word_line, ◌⊳◌}
pub use Rattle.keymap_names.proofs.Pieces.{piece_more, pieces_on}
pub use Rattle.keymap_names.proofs.Plain.{plain_append, plain_flat, plain_line, plain_none}
