use Rattle.keymap_cover.proofs.Common.{arith, inl, refl}
use Rattle.keymap_cover.proofs.Showing.{all-more, stays-so}
use Rattle.keymap_cover.proofs.cover.show_all.Goals as goal

pub loop-sight-init : goal.loop-sight-init
loop-sight-init g c =
    stays-so g.T.Translator.stands c.args.map.now c.args.script.now _
    (λ h w. ((λ n x lt at can. absurd (omega (arith, lt))), inl refl))

pub loop-sight-preserved : goal.loop-sight-preserved
loop-sight-preserved g c =
    all-more g.T.Translator.stands c.args.map.now c.args.script.now c.loop-sight.script c.show_left_out.new.script
    c.args.told.now c.loop-sight.sight-index _ c.loop-sight-test.true c.loop-sight.invariant
    c.in_ok-show_left_out.ensures

pub returns : goal.returns
returns g c =
    λ h w.
    let (f, v, after, (all, new)) = c.loop-sight.invariant h w in
    (f, v, after, ((λ x (n, lt, at) can. all n x (omega (arith, lt, c.loop-sight-test.false)) at can), new))
