use Rattle.keyboard_cover.specs.Covering.{RunsAlong}
use Rattle.keyboard_cover.proofs.checked.script_of.Given as goal

abbrev pub invariant-loop-draft : goal.invariant-loop-draft
invariant-loop-draft g l = RunsAlong g.T.Translator.stands l.map l.presses l.console l.cover
