use Rattle.keymap_text.proofs.Common.{eqb-true, sym, ◌∙◌, arith}
use Rattle.keymap_text.proofs.Numbers.{digits_none, digits_bad, more_fits, spells_more, spells_all}
use Rattle.keymap_text.proofs.words.number_of.Goals as goal

pub returns-then-is_empty : goal.returns-then-is_empty
returns-then-is_empty c = sym (digits_none _ _ (eqb-true _ _ (sym c.is_empty.ensures ∙ c.if-is_empty.true)))

pub returns-then-d-base : goal.returns-then-d-base
returns-then-d-base c = sym (digits_bad c.args.base c.args.digits.now c.loop-c.c-index c.loop-c-test.true (omega arith))

pub overflow_mul-n : goal.overflow_mul-n
overflow_mul-n c =
    omega (arith, more_fits 32 c.loop-c.invariant c.requires.base c.if-d-base.false (omega arith))

pub overflow_add-n : goal.overflow_add-n
overflow_add-n c =
    omega (arith, more_fits 32 c.loop-c.invariant c.requires.base c.if-d-base.false (omega arith))

pub loop-c-preserved : goal.loop-c-preserved
loop-c-preserved c =
    spells_more c.loop-c-test.true c.requires.base c.digit_value-d.ensures c.if-d-base.false c.loop-c.invariant

pub returns : goal.returns
returns c =
    spells_all (sym c.is_empty.ensures ∙ c.if-is_empty.false) c.loop-c-test.false c.loop-c.invariant
