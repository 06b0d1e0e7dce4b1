use Rattle.std.proofs.Common.{arith, refl, ◌∙◌}
use Rattle.messages.specs.Filled.{filled}
use Rattle.messages.proofs.Filling.{at-place, at-end, left-more}
use Rattle.messages.proofs.templates.fill_line.Goals as goal

pub loop-text-init : goal.loop-text-init
loop-text-init c = record { text = refl; places = c.requires.places; room = c.requires.room }

pub fill_next-rest-requires : goal.fill_next-rest-requires
fill_next-rest-requires c =
    (at-place c.args.told.now c.loop-text.text-index c.loop-text.line.items c.loop-text.rest.now _
    c.loop-text-test.true c.loop-text.invariant).room.0

pub loop-text-preserved : goal.loop-text-preserved
loop-text-preserved c =
    let left = at-place c.args.told.now c.loop-text.text-index c.loop-text.line.items c.loop-text.rest.now _
    c.loop-text-test.true c.loop-text.invariant in
    rw c.fill_next-rest.ensures.behind (left-more _ _ _ _ _ _ left c.fill_next-rest.ensures.line)

pub put-requires : goal.put-requires
put-requires c =
    (at-end c.args.told.now c.loop-text.text-index c.loop-text.line.items c.loop-text.rest.now _
    (omega (arith, c.loop-text-test.false)) c.loop-text.invariant).room

pub returns : goal.returns
unfolding filled
returns c =
    c.put.ensures
    ∙ (at-end c.args.told.now c.loop-text.text-index c.loop-text.line.items c.loop-text.rest.now _
    (omega (arith, c.loop-text-test.false)) c.loop-text.invariant).text
