-- The types that this crate's definitions and proofs name most, with their variants, passed on from one place.
pub use Rattle.keymap_core.specs.declared.action.Lock.{Lock}
pub use Rattle.keymap_core.specs.declared.action.Modifier.{Modifier}
pub use Rattle.console_core.specs.declared.event.Answer.{Answer}
pub use Rattle.console_core.specs.declared.event.Event.{Event}
pub use Rattle.play_core.specs.declared.script.ScriptFault.{ScriptFault}
pub use Rattle.play_core.specs.declared.script_line.LineFault.{LineFault}
pub use Rattle.play_core.specs.declared.script_line.LineFault.TheVariants.{Form, Key}
pub use Rattle.play_core.specs.declared.sent.Sent.{Sent}
pub use Rattle.play_core.specs.declared.sent.What.{What}
pub use Rattle.play_core.specs.declared.sent.What.TheVariants.{Down, Repeat, Up, Reset, Load}
