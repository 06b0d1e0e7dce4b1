use Rattle.keymap_core.proofs.Common.{subst, rules}
use Rattle.std.proofs.lemmas.List.{take_all}
use Rattle.std.proofs.lemmas.List.Elements.{All-more, All-same}
use Rattle.keymap_core.proofs.bounds.have_bounds.Goals as goal

pub loop-value-preserved : goal.loop-value-preserved
loop-value-preserved g c =
    All-more g.T.Bounded.Is c.args.values.now c.loop-value.value-index c.value-item.result c.loop-value-test.true
    c.loop-value.invariant (subst g.T.Bounded.Is c.value-item.is c.has_bounds.ensures)

pub returns : goal.returns
returns g c = search (rules, All-same, take_all)
