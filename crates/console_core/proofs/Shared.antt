-- What the crates above may cite of these proofs. All else stands for this crate alone.
pub use Rattle.console_core.proofs.Bearing.{borne-pressed, first_kept, pressed_if, remembered-cell}
pub use Rattle.console_core.proofs.Bearing.{remembered-pressed}
pub use Rattle.console_core.proofs.Borne.{AllLooked, column_of-lt, look-cell, resolved-looked, taken-holding}
pub use Rattle.console_core.proofs.Deliveries.{answers_to-push, reverse-cons, reverse-joined, reverse-push}
pub use Rattle.console_core.proofs.Facts.{looks_are_cells}
pub use Rattle.console_core.proofs.FreshPresses.{no_loads-first}
pub use Rattle.console_core.proofs.Headline.{off_once_quiet, on_only_while_pressed}
pub use Rattle.console_core.proofs.OneMap.{first_in_force, one_in_force, without_loads}
pub use Rattle.console_core.proofs.OneMore.{held-action, held-character, held-load, held-release, held-reset}
pub use Rattle.console_core.proofs.OneMore.{held-start, is-nothing, locked-action, locked-character}
pub use Rattle.console_core.proofs.OneMore.{locked-load, locked-release, locked-reset, locked-start, one_map}
pub use Rattle.console_core.proofs.OneMore.{pending-action, pending-character, pending-release, pending-reset}
pub use Rattle.console_core.proofs.OneMore.{pending-start, pressed-load, pressed-press, pressed-release}
pub use Rattle.console_core.proofs.OneMore.{pressed-reset, pressed-start, remembered-action}
pub use Rattle.console_core.proofs.OneMore.{remembered-character, remembered-load, remembered-release}
pub use Rattle.console_core.proofs.OneMore.{remembered-reset, remembered-start, resolved-more, resolved-start}
pub use Rattle.console_core.proofs.Places.{modifier-at, modifier_index-lt}
pub use Rattle.console_core.proofs.Prefixes.{answers_by_cases}
pub use Rattle.console_core.proofs.Traps.{bits_of, look-bits, on_only_while_pressed_without_traps}
pub use Rattle.console_core.proofs.WordBits.{lock_index-lt, two_cases}
