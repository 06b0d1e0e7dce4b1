use Rattle.script_text.proofs.Common.{◌∙◌, sym}
use Rattle.std.proofs.lemmas.List.{at_drop_all, at_drop_more}
use Rattle.script_text.specs.Cover.{with_bases}
use Rattle.script_text.proofs.cover.add_bases.Goals as goal

pub returns : goal.returns
returns c =
    sym (at_drop_all (with_bases c.loop-pair.bases.items) _ _ c.loop-pair-test.false) ∙ c.loop-pair.invariant

pub loop-pair-preserved : goal.loop-pair-preserved
loop-pair-preserved c =
    let next = at_drop_more (with_bases c.loop-pair.bases.items) _ _ (0, 0) c.loop-pair-test.true in
    rw c.in_ok-add.ensures (sym next ∙ c.loop-pair.invariant)
