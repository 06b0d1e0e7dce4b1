use Rattle.keymap_diff.proofs.Bases.{bases_skip, bases_step}
use Rattle.keymap_diff.proofs.compared.push_bases.Goals as goal
use Rattle.keymap_diff.proofs.compared.push_bases.Goals.{then-is_new+in_ok-add, else-is_new}

pub loop-index-preserved : goal.loop-index-preserved
loop-index-preserved c =
    elim c.if-is_new.branch [
      | then-is_new+in_ok-add w ↦
          rw w.found-is
          (bases_step c.args.versions.now c.args.accent c.args.before.now c.args.pairs.now c.loop-index.index _
          w.pair.result c.args.found.now.items c.loop-index.found.items w.add.new.found.items c.loop-index-test.true
          c.loop-index.invariant (c.is_new.ensures.new w.if-is_new.true) w.pair.ensures w.in_ok-add.ensures)
      | else-is_new w ↦
          rw w.found-is
          (bases_skip c.args.versions.now c.args.accent c.args.before.now c.args.pairs.now c.loop-index.index _
          c.args.found.now.items c.loop-index.found.items c.loop-index-test.true c.loop-index.invariant
          (c.is_new.ensures.known w.if-is_new.false))
    ]
