use Rattle.script_text.proofs.Common.{rules}
use Rattle.script_text.proofs.Covered.{piece_behind}
use Rattle.script_text.proofs.cover.push_columns.Goals as goal

pub loop-column-preserved : goal.loop-column-preserved
loop-column-preserved c = search (rules, piece_behind)
