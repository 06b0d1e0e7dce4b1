use Rattle.script_text.proofs.Common.{rules}
use Rattle.script_text.proofs.Covered.{taken_behind}
use Rattle.script_text.proofs.cover.push_characters.Goals as goal

pub loop-base-preserved : goal.loop-base-preserved
loop-base-preserved c = search (rules, taken_behind)
