use Rattle.std.proofs.Common.{rules}
use Rattle.keymap_cover.proofs.Common.{reverse}
use Rattle.keymap_cover.proofs.Showing.{rests-behind, rests-more, rests-off}
use Rattle.keymap_cover.proofs.Walking.{on-ok}
use Rattle.keymap_cover.proofs.cover.try_keys.Goals as goal

pub loop-trial-init : goal.loop-trial-init
loop-trial-init g c = c.in_ok-go_home.ensures

pub loop-trial-preserved : goal.loop-trial-preserved
loop-trial-preserved g c =
    let s = g.T.Translator.stands in
    let m = c.args.map.now in
    let b = c.walk.new.self in
    rests-more s m c.args.script.now b c.go_home-in-loop-trial.new.script
    (rests-more s m c.args.script.now c.loop-trial.script b c.loop-trial.invariant
    (rests-behind s m (reverse c.deref.result.now) c.loop-trial.script b c.in_ok-walk.ensures.along
    c.in_ok-walk.ensures.up))
    c.in_ok-go_home-2.ensures

pub returns : goal.returns
returns g c = search (rules, on-ok, rests-off)
