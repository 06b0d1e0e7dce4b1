use Rattle.script_text.proofs.Common.{◌∙◌, arith, is_in}
use Rattle.script_text.proofs.Covered.{alike_one, alike_more}
use Rattle.script_text.proofs.cover.run_end.Goals as goal

pub loop-slot-init : goal.loop-slot-init
loop-slot-init c =
    (omega arith, omega (arith, c.requires.place), alike_one (is_in c.args.listing.now) c.args.first)

pub loop-slot-preserved : goal.loop-slot-preserved
loop-slot-preserved c =
    let so = c.loop-slot.invariant in (
      omega (arith, so.0),
      omega (arith, c.loop-slot-test.true),
      alike_more (is_in c.args.listing.now) c.args.first c.loop-slot.slot so.2
          (c.in_ok-has_row.ensures.same c.if-not-branch.false ∙ c.requires.row),
    )
