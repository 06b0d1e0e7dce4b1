use Rattle.keymap_lint.proofs.Common.{[], ◌∙◌, sym}
use Rattle.keymap_lint.proofs.Lists.{gathered_step}
use Rattle.keymap_lint.proofs.Told.{no_directives}
use Rattle.keymap_lint.specs.Directives.{directive_at}
use Rattle.keymap_lint.proofs.directives.directives.Goals as goal

pub returns-then-not-has_mark : goal.returns-then-not-has_mark
returns-then-not-has_mark c =
    c.new-found.ensures.items
    ∙ sym (no_directives c.args.bytes.now c.args.text.now (c.has_mark.ensures c.if-not-has_mark.true))

pub loop-place-preserved : goal.loop-place-preserved
loop-place-preserved c =
    gathered_step (directive_at c.args.bytes.now c.args.text.now) c.loop-place.place [] _ _ _ c.loop-place.invariant
    c.directive_at.ensures c.in_ok-add.ensures
