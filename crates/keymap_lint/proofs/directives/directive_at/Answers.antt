use Rattle.keymap_lint.proofs.Common.{arith, sym}
use Rattle.std.proofs.lemmas.Bool.Decides.{nat_tests}
use Rattle.keymap_lint.proofs.Told.{no_hash_no_directive}
use Rattle.keymap_lint.proofs.directives.directive_at.Goals as goal

pub returns-then-bytes-place-ne35 : goal.returns-then-bytes-place-ne35
returns-then-bytes-place-ne35 c =
    sym (no_hash_no_directive c.args.bytes.now c.args.text.now c.args.place (grind (arith, nat_tests)))
