use Rattle.keymap_diff.specs.Inner.Pushing.{PushesBases}
use Rattle.std.proofs.Common.{take}
use Rattle.keymap_diff.proofs.compared.push_bases.Given as goal

abbrev pub invariant-loop-index : goal.invariant-loop-index
invariant-loop-index l =
    PushesBases l.versions l.accent l.before (take l.index l.pairs) l.fn.found.items l.found.items
