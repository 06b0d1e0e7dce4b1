-- The types that this crate's definitions and proofs name most, with their variants, passed on from one place.
pub use Rattle.keymap_text.specs.declared.fault.TextFaultKind.{TextFaultKind}
pub use Rattle.keymap_text.specs.declared.token.TokenKind.{TokenKind}
pub use Rattle.keymap_fmt.specs.declared.layout.State.{State}
pub use Rattle.keymap_fmt.specs.declared.piece.Part.{Part}
pub use Rattle.keymap_fmt.specs.declared.piece.Part.TheVariants.{Comment, Code}
pub use Rattle.keymap_fmt.specs.declared.piece.Standing.{Standing}
pub use Rattle.keymap_fmt.specs.declared.piece.Standing.TheVariants.{AtTop, Beside, Below, Apart}
