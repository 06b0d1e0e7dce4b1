use Rattle.script_text.proofs.Common.{◌∙◌, get_or_default, refl, take}
use Rattle.script_text.proofs.Differing.{script_more}
use Rattle.script_text.proofs.diff.push_script.Goals as goal

pub loop-place-preserved : goal.loop-place-preserved
loop-place-preserved c =
    let es = c.args.events.now in
    let i = c.loop-place.place in
    script_more es (take i es) i c.index-events-place.result c.args.text.now.items c.loop-place.text.items _
    c.in_ok-push_event.ensures c.loop-place.invariant refl c.loop-place-test.true
    (c.index-events-place.is ∙ get_or_default _ _ _ _ c.loop-place-test.true)
