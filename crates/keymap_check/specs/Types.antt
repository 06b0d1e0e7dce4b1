-- The types that this crate's definitions and proofs name most, with their variants, passed on from one place.
pub use Rattle.keymap_core.specs.declared.action.Holding.{Holding}
pub use Rattle.keymap_core.specs.declared.action.Lock.{Lock}
pub use Rattle.keymap_core.specs.declared.action.Modifier.{Modifier}
pub use Rattle.keymap_core.specs.declared.action.Modifier.TheVariants.{LeftShift, RightShift, LeftControl, RightControl}
pub use Rattle.keymap_core.specs.declared.action.Modifier.TheVariants.{LeftAlt, RightAlt, AltShift, Meta}
pub use Rattle.keymap_core.specs.declared.entry.Cell.{Cell}
pub use Rattle.keymap_core.specs.declared.entry.Cell.TheVariants.{Act, Char}
pub use Rattle.console_core.specs.declared.event.Event.{Event}
pub use Rattle.console_core.specs.declared.event.Event.TheVariants.{Press, Release, Reset, Load}
pub use Rattle.keymap_check.specs.declared.bearer.Bearer.{Bearer}
pub use Rattle.keymap_check.specs.declared.bearer.Bearer.TheVariants.{Nobody, Throughout, Sole, Several}
pub use Rattle.keymap_check.specs.declared.finding.Finding.{Finding}
pub use Rattle.keymap_check.specs.declared.finding.Place.{Place}
pub use Rattle.keymap_check.specs.declared.kind.Group.{Group}
pub use Rattle.keymap_check.specs.declared.kind.Kind.{Kind}
