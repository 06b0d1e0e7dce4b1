-- The types that this crate's definitions and proofs name most, with their variants, passed on from one place.
pub use Rattle.keymap_core.specs.declared.action.Holding.{Holding}
pub use Rattle.keymap_core.specs.declared.entry.Cell.{Cell}
pub use Rattle.keymap_core.specs.declared.entry.Cell.TheVariants.{Char, Act}
pub use Rattle.console_core.specs.declared.event.Event.{Event}
pub use Rattle.console_states.specs.declared.outcome.Sticking.{Sticking}
pub use Rattle.keymap_check.specs.declared.finding.Finding.{Finding}
pub use Rattle.keymap_places.specs.declared.placed.Defined.{Defined}
pub use Rattle.keymap_places.specs.declared.placed.Defined.TheVariants.{Slot, Accent}
pub use Rattle.keymap_places.specs.declared.placed.Placed.{Placed}
pub use Rattle.keymap_text.specs.declared.token.Span.{Span}
pub use Rattle.keymap_lint.specs.declared.cells.CellInForce.{CellInForce}
pub use Rattle.keymap_lint.specs.declared.diagnostic.Diagnostic.{Diagnostic}
pub use Rattle.keymap_lint.specs.declared.diagnostic.Diagnostics.{Diagnostics}
pub use Rattle.keymap_lint.specs.declared.diagnostic.Kind.{Kind}
pub use Rattle.keymap_lint.specs.declared.diagnostic.Lint.{Lint}
pub use Rattle.keymap_lint.specs.declared.diagnostic.Lint.TheVariants.{Faulty, Spelled}
pub use Rattle.keymap_lint.specs.declared.diagnostic.PlacedFault.{PlacedFault}
