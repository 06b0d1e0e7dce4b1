use Rattle.keymap_check.proofs.Common.{append-nil, rules}
use Rattle.keymap_check.proofs.Common.{gathered-none, gathered-more}
use Rattle.keymap_check.proofs.finding.findings.Goals.{in-Some, in-None}
use Rattle.keymap_check.proofs.finding.findings.Goals as goal

pub loop-key-init : goal.loop-key-init
loop-key-init g c = search (rules, gathered-none)

pub loop-key-preserved : goal.loop-key-preserved
loop-key-preserved g c = search (rules, gathered-more, in-Some, in-None, append-nil)

pub returns : goal.returns
returns g c = search rules
