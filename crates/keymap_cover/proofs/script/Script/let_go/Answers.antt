use Rattle.std.proofs.Common.{arith}
use Rattle.keymap_cover.proofs.Walking.{on-more, up-more}
use Rattle.keymap_cover.proofs.script.Script.let_go.Goals as goal

pub loop-code-preserved : goal.loop-code-preserved
loop-code-preserved g c = (
  (λ m.
      on-more g.T.Translator.stands m c.key_with.result c.args.self.now c.loop-code.self c.up.new.self
      (c.loop-code.invariant.0 m) (c.in_ok-up.ensures.along m)),
  up-more c.loop-code.self.pressed c.up.new.self.pressed c.loop-code.code c.key_with.result c.key_with.ensures
      c.in_ok-up.ensures.up c.in_ok-up.ensures.others c.loop-code.invariant.1,
)

pub returns-clause-up : goal.returns-clause-up
returns-clause-up g c = λ k below. c.loop-code.invariant.1 k (omega arith)
