-- The types that this crate's definitions and proofs name most, with their variants, passed on from one place.
pub use Rattle.keymap_core.specs.declared.action.Action.{Action}
pub use Rattle.keymap_core.specs.declared.entry.Cell.{Cell}
pub use Rattle.keymap_core.specs.declared.entry.Entry.{Entry}
pub use Rattle.keymap_places.specs.declared.placed.Defined.TheVariants.{Slot, Accent}
pub use Rattle.keymap_places.specs.declared.placed.Defined.{Defined}
pub use Rattle.keymap_places.specs.declared.placed.Placed.{Placed}
pub use Rattle.keymap_text.specs.declared.fault.TextFault.{TextFault}
pub use Rattle.keymap_text.specs.declared.fault.TextFaultKind.TheVariants.{EndInside}
pub use Rattle.keymap_text.specs.declared.fault.TextFaultKind.{TextFaultKind}
pub use Rattle.keymap_text.specs.declared.token.Span.{Span}
pub use Rattle.keymap_text.specs.declared.token.Token.{Token}
pub use Rattle.keymap_text.specs.declared.token.TokenKind.TheVariants.{ParenL, Word}
pub use Rattle.keymap_text.specs.declared.token.TokenKind.{TokenKind}
pub use Rattle.keymap_text.specs.declared.words.Item.TheVariants.{Value, Open, Close}
pub use Rattle.keymap_text.specs.declared.words.Item.{Item}
pub use Rattle.keymap_text.specs.declared.words.Meaning.TheVariants.{Number, Act, Letter}
pub use Rattle.keymap_text.specs.declared.words.Meaning.{Meaning}
