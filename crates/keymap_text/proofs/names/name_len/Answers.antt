use Rattle.keymap_text.proofs.Common.{arith, ap, not, ne_eqb, is_letter, prefix_len-drop_yes}
use Rattle.keymap_text.proofs.names.name_len.Goals as goal

pub loop-i-preserved : goal.loop-i-preserved
loop-i-preserved c =
    let letter = ap not (ne_eqb _ _ c.if-name-i-ne32.true) in
    let rest = prefix_len-drop_yes is_letter c.args.name.now c.loop-i.i 0 c.loop-i-test.true letter in
    record { within = omega arith; value = omega (arith, c.loop-i.invariant.value) }
