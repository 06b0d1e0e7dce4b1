use Rattle.script_text.proofs.Common.{rules}
use Rattle.keymap_names.proofs.Shared.{piece_more}
use Rattle.script_text.proofs.diff.line_places.Goals as goal

pub loop-place-preserved : goal.loop-place-preserved
loop-place-preserved c = search (rules, piece_more)
