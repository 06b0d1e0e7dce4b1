use Rattle.script_text.proofs.Common.{◌≡◌, ◌++◌, flat_map, take}
use Rattle.script_text.specs.Diff.{last_line}
use Rattle.script_text.proofs.diff.push_last_lines.Given as goal

abbrev pub invariant-loop-change : goal.invariant-loop-change
invariant-loop-change l = l.text.items ≡ l.fn.text.items ++ flat_map last_line (take l.change-index l.changes)
