-- the script goes on, and rests
use Rattle.keymap_cover.specs.Inner.Scripts.{GoesResting}
use Rattle.keymap_cover.proofs.cover.try_keys.Given as goal

abbrev pub invariant-loop-trial : goal.invariant-loop-trial
invariant-loop-trial g l = GoesResting l.map g.T.Translator.stands l.fn.script l.script
