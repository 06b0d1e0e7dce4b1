use Rattle.std.proofs.Common.{rules}
use Rattle.console_states.proofs.Shared.{ok-then}
use Rattle.keymap_diff.proofs.Known.{differences-of}
use Rattle.keymap_diff.proofs.marking.marked.Goals as goal

pub returns : goal.returns
returns c = search (rules, ok-then, differences-of)
