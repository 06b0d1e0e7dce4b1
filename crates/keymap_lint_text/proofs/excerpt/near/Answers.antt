use Rattle.keymap_lint_text.proofs.Common.{sym, arith, take_all}
use Rattle.keymap_lint_text.proofs.excerpt.near.Goals as goal

pub returns-then-rest-lt-SIDE : goal.returns-then-rest-lt-SIDE
returns-then-rest-lt-SIDE c =
    sym (take_all 120 c.args.rest.now (omega (arith, c.if-rest-lt-SIDE.true)))
