-- the lines before this one were added
use Rattle.script_text.proofs.Common.{◌≡◌, ◌++◌, take}
use Rattle.script_text.specs.Comments.{said_lines}
use Rattle.script_text.proofs.diff.push_said.Given as goal

abbrev pub invariant-loop-line : goal.invariant-loop-line
invariant-loop-line l = l.text.items ≡ l.fn.text.items ++ said_lines (take l.line-index l.lines)
