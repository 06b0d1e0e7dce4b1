use Rattle.keymap_lint.proofs.Common.{subst, sym}
use Rattle.console_scripts.specs.Typing.{CanType}
use Rattle.keymap_lint.proofs.Untyped.{marked}
use Rattle.keymap_lint.proofs.typed.mark_typed.Goals as goal

pub returns-then-number-lt128 : goal.returns-then-number-lt128
returns-then-number-lt128 c =
    marked c.args._map.now c.args.sure.now c.from-number.result c.requires.sure
    (subst (CanType c.args._map.now) (sym c.from-number.ensures) c.requires.typed)
