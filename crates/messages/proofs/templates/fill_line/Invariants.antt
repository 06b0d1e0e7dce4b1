use Rattle.std.proofs.Common.{◌++◌, map}
use Rattle.messages.specs.Filled.{filled}
use Rattle.messages.proofs.Filling.{IsLeft, behind}
use Rattle.messages.proofs.templates.fill_line.Given as goal

abbrev pub invariant-loop-text : goal.invariant-loop-text
invariant-loop-text l =
    IsLeft (behind l.told l.text-index) l.line.items l.rest
    (l.fn.line.items ++ filled l.fn.words (map (λ t. t.now) l.fn.told))
