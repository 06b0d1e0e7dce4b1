-- The types that this crate's definitions and proofs name most, with their variants, passed on from one place.
pub use Rattle.keymap_core.specs.declared.action.Action.{Action}
pub use Rattle.keymap_core.specs.declared.action.Holding.{Holding}
pub use Rattle.keymap_core.specs.declared.action.Lock.{Lock}
pub use Rattle.keymap_core.specs.declared.action.Lock.TheVariants.{Caps, Num, Scroll, Alt}
pub use Rattle.keymap_core.specs.declared.action.Modifier.{Modifier}
pub use Rattle.keymap_core.specs.declared.action.Modifier.TheVariants.{Meta, LeftShift, RightShift, LeftControl}
pub use Rattle.keymap_core.specs.declared.action.Modifier.TheVariants.{RightControl, LeftAlt, RightAlt, AltShift}
pub use Rattle.keymap_core.specs.declared.entry.Cell.{Cell}
pub use Rattle.keymap_core.specs.declared.entry.Cell.TheVariants.{Char, Act}
pub use Rattle.console_core.specs.declared.event.Answer.{Answer}
pub use Rattle.console_core.specs.declared.event.Event.{Event}
pub use Rattle.console_core.specs.declared.event.Event.TheVariants.{Press, Load, Release, Reset}
pub use Rattle.console_states.specs.declared.held.Move.{Move}
pub use Rattle.console_states.specs.declared.held.Move.TheVariants.{Hold, Turn, Tap, LetGo, Exchange}
pub use Rattle.console_states.specs.declared.outcome.Sticking.TheVariants.{Sticks, Never, Undecided}
pub use Rattle.console_states.specs.declared.selection.Selection.{Selection}
pub use Rattle.console_states.specs.declared.selection.Sight.{Sight}
pub use Rattle.console_states.specs.declared.sights.Offer.{Offer}
pub use Rattle.console_states.specs.declared.sights.Sights.{Sights}
