use Rattle.console_scripts.proofs.explorer.tap_wanted.Goals as goal

pub loop-code-init : goal.loop-code-init
loop-code-init g c = λ m one h a. a

pub loop-code-preserved : goal.loop-code-preserved
loop-code-preserved g c = λ m one h a. c.in_ok-tap_if.ensures m one h (c.loop-code.invariant m one h a)
