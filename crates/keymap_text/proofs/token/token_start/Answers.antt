use Rattle.keymap_text.proofs.Common.{rules}
use Rattle.keymap_text.proofs.Splitting.{split_blank_at, split_line_at}
use Rattle.keymap_text.proofs.Scanning.{spaces_at}
use Rattle.keymap_text.proofs.token.token_start.Goals as goal

pub loop-i-init : goal.loop-i-init
loop-i-init c = search (rules, spaces_at)

pub loop-i-preserved-then-text-i-eq35 : goal.loop-i-preserved-then-text-i-eq35
loop-i-preserved-then-text-i-eq35 c = search (rules, split_line_at)

pub loop-i-preserved : goal.loop-i-preserved
loop-i-preserved c = search (rules, split_blank_at)
