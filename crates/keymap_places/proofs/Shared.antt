-- What the crates above may cite of these proofs. All else stands for this crate alone.
pub use Rattle.keymap_places.proofs.InForce.{accent_in_force, no_slot, slot_in_force}
pub use Rattle.keymap_places.proofs.LineStarts.{next_start}
pub use Rattle.keymap_places.proofs.Parts.{accent_tokens, cell_at, lock_at, own_at, pair_at, slot_tokens}
pub use Rattle.keymap_places.proofs.SamePlaces.{same_places}
pub use Rattle.keymap_places.proofs.TokenPlaces.{tokens_are_in_order, tokens_are_placed}
