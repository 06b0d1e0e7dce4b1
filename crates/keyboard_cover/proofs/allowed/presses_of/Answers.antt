use Rattle.std.proofs.Common.{rules}
use Rattle.keymap_core.proofs.Shared.{code-read}
use Rattle.keyboard_cover.proofs.Pressed.{code-small}
use Rattle.keyboard_cover.proofs.allowed.presses_of.Goals as goal

pub returns : goal.returns
returns c = search (rules, code-small, code-read)
