use Rattle.script_text.proofs.Common.{rules}
use Rattle.script_text.proofs.Covered.{piece_behind}
use Rattle.script_text.proofs.cover.push_accents.Goals as goal

pub loop-accent-preserved : goal.loop-accent-preserved
loop-accent-preserved c = search (rules, piece_behind)
