-- What the crates above may cite of these proofs. All else stands for this crate alone.
pub use Rattle.keymap_lint.proofs.Pairs.{pairs_at, pairs_flat_related, pairs_one}
pub use Rattle.keymap_lint.proofs.SameKept.{IsSameDirective}
pub use Rattle.keymap_lint.proofs.SamePlaces.{AreInOrder, BeginAlike}
pub use Rattle.keymap_lint.proofs.SameTexts.{same_diagnostics, same_directive}
pub use Rattle.keymap_lint.proofs.Told.{comment_on_line, comment_there, inside_no_directive, no_hash_no_directive}
pub use Rattle.keymap_lint.proofs.Told.{stands_inside, stands_so, take_take}
pub use Rattle.keymap_lint.proofs.Untyped.{rising_last}
