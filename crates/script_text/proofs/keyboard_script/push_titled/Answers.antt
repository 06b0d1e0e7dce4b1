use Rattle.script_text.proofs.Common.{append_assoc, get_or_default, rules}
use Rattle.script_text.proofs.Covered.{piece_behind}
use Rattle.script_text.proofs.keyboard_script.push_titled.Goals as goal

pub loop-place-preserved : goal.loop-place-preserved
loop-place-preserved c = search (rules, get_or_default, piece_behind, append_assoc)
