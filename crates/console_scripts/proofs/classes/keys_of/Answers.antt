use Rattle.console_scripts.proofs.Common.{ap, ◌∙◌, arith}
use Rattle.std.proofs.lemmas.List.{length-set}
use Rattle.console_scripts.proofs.ClassPresses.{filled-below}
use Rattle.console_scripts.specs.Inner.Courses.{presses_always, takes_key}
use Rattle.console_states.specs.declared.allowed.KeyPresses.TheVariants.{Never}
use Rattle.console_scripts.proofs.classes.keys_of.Goals as goal

pub loop-code-preserved : goal.loop-code-preserved
loop-code-preserved c =
    let taken = takes_key c.args.board c.args.class c.args.spared in
    let n = c.loop-code.code in
    let keys = c.loop-code.keys in
    record {
      told =
          filled-below (λ k. presses_always (taken k)) keys Never n _
          (c.presses_if.ensures ∙ ap presses_always (c.takes.ensures ∙ ap taken c.key_with.ensures))
          (omega (arith, c.loop-code-test.true, c.loop-code.invariant.size)) c.loop-code.invariant.told;
      size = length-set keys n _ ∙ c.loop-code.invariant.size;
    }
