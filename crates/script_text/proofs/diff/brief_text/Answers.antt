use Rattle.std.proofs.Common.{rules}
use Rattle.script_text.proofs.Common.{append_assoc}
use Rattle.script_text.proofs.diff.brief_text.Goals as goal

pub returns : goal.returns
returns c = (c.in_ok-lines.lines.items, search (rules, append_assoc))
