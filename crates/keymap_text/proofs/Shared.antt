-- What the crates above may cite of these proofs. All else stands for this crate alone.
pub use Rattle.keymap_text.proofs.Alone.{skipped_separates, stands_alone}
pub use Rattle.keymap_text.proofs.Characters.{IsNamed, found_word, is_one_word, named_character}
pub use Rattle.keymap_text.proofs.Faults.{list_ends, list_stops, list_then}
pub use Rattle.keymap_text.proofs.Folded.{accents_of, entries_of, last_more, last_none, puts_are}
pub use Rattle.keymap_text.proofs.InFront.{Fits, front_blank, front_comment, front_fits, front_quote, skipped_by}
pub use Rattle.keymap_text.proofs.Leading.{leading_append, leading_fail, leading_front, leading_le}
pub use Rattle.keymap_text.proofs.Leading.{leading_part, leading_pass, leading_rest, leading_tail, same_head}
pub use Rattle.keymap_text.proofs.Leading.{same_tail}
pub use Rattle.keymap_text.proofs.Lines.{feeds, feeds_run, line_more}
pub use Rattle.keymap_text.proofs.Literals.{literal_spelled}
pub use Rattle.keymap_text.proofs.OneRow.{defined_is}
pub use Rattle.keymap_text.proofs.Pieces.{lines-next}
pub use Rattle.keymap_text.proofs.Splitting.{split_after, split_blank, split_comment, split_found, split_nil}
pub use Rattle.keymap_text.proofs.Splitting.{split_one, split_refused, split_skipped, split_unfinished}
pub use Rattle.keymap_text.proofs.Splitting.{to_end}
pub use Rattle.keymap_text.proofs.Verdicts.{fault_to, fault_within, not_both, one_map}
