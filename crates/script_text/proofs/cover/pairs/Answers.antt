use Rattle.script_text.proofs.Common.{rules}
use Rattle.keymap_names.proofs.Shared.{piece_more}
use Rattle.script_text.proofs.cover.pairs.Goals as goal

pub loop-accent-preserved : goal.loop-accent-preserved
loop-accent-preserved c = search (rules, piece_more)
