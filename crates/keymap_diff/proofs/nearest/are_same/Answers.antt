use Rattle.std.proofs.Common.{rules}
use Rattle.keymap_diff.proofs.LastEvents.{answer-same}
use Rattle.keymap_diff.proofs.nearest.are_same.Goals as goal

pub returns : goal.returns
returns c = search (rules, answer-same)
