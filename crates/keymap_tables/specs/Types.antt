-- The types that this crate's definitions and proofs name most, with their variants, passed on from one place.
pub use Rattle.keymap_core.specs.declared.entry.Cell.{Cell}
pub use Rattle.keymap_core.specs.declared.entry.Cell.TheVariants.{Char, Act}
pub use Rattle.keymap_core.specs.declared.entry.Entry.{Entry}
pub use Rattle.keymap_core.specs.declared.entry.LockFlag.{LockFlag}
pub use Rattle.keymap_tables.specs.declared.fault.TableError.{TableError}
pub use Rattle.keymap_tables.specs.declared.fault.TableError.TheVariants.{Memory, Read, Fault}
pub use Rattle.keymap_tables.specs.declared.fault.TableFault.{TableFault}
pub use Rattle.keymap_tables.specs.declared.fault.TableFaultKind.{TableFaultKind}
pub use Rattle.keymap_tables.specs.declared.fault.TableFaultKind.TheVariants.{NotEmpty, BadPad, BadFlag, Short, Long}
pub use Rattle.keymap_tables.specs.declared.fault.TableFaultKind.TheVariants.{BadCount, BadAction, Combined, BadChar}
pub use Rattle.keymap_tables.specs.declared.layout.Layout.{Layout}
pub use Rattle.keymap_tables.specs.declared.layout.Layout.TheVariants.{Wide, Narrow}
