use Rattle.script_text.proofs.Common.{◌≡◌, take}
use Rattle.script_text.specs.Diff.{columns_like}
use Rattle.script_text.proofs.diff.columns_like.Given as goal

abbrev pub invariant-loop-other : goal.invariant-loop-other
invariant-loop-other l = l.columns.items ≡ columns_like (take l.other-index l.line) l.change
