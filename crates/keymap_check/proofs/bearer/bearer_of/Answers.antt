use Rattle.keymap_check.proofs.Common.{sym, rules}
use Rattle.keymap_check.proofs.Bearers.{bearer_below-start, bearer-added, bearer-kept}
use Rattle.keymap_check.proofs.bearer.bearer_of.Goals.{then-has, else-has}
use Rattle.keymap_check.proofs.bearer.bearer_of.Goals as goal

pub loop-key-init : goal.loop-key-init
loop-key-init g c = λ m shows is. sym (bearer_below-start m c.args.holding)

pub loop-key-preserved : goal.loop-key-preserved
loop-key-preserved g c = search (rules, then-has, bearer-added, else-has, bearer-kept)

pub returns : goal.returns
returns g c = search rules
