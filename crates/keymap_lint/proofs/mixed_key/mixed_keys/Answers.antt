use Rattle.keymap_lint.proofs.Common.{[], mixed_key, refl}
use Rattle.keymap_lint.proofs.Lists.{flat_step}
use Rattle.keymap_lint.proofs.mixed_key.mixed_keys.Goals as goal

pub loop-finding-preserved : goal.loop-finding-preserved
loop-finding-preserved c =
    flat_step (mixed_key c.args.text.now) c.args.findings.now _ _ _ _ [] _ _ _ refl c.loop-finding-test.true
    c.finding-item.is c.loop-finding.invariant c.mixed_key.ensures c.in_ok-add.ensures
