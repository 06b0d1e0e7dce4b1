use Rattle.std.proofs.Common.{sym, ◌∙◌}
use Rattle.keymap_diff.proofs.Bases.{agree_more, same_result}
use Rattle.keymap_diff.proofs.compared.agree.Goals as goal

pub loop-pair-preserved : goal.loop-pair-preserved
loop-pair-preserved c =
    agree_more c.args.pairs.now c.args.old.now c.args.new.now c.loop-pair.pair-index _ c.loop-pair-test.true
    c.loop-pair.invariant
    (sym c.result_of.ensures
    ∙ same_result c.result_of.result c.result_of-in-loop-pair.result c.ne.result c.ne.ensures c.if-ne.false
    ∙ c.result_of-in-loop-pair.ensures)
