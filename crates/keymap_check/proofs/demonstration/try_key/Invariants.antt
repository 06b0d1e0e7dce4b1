use Rattle.keymap_check.proofs.Common.{◌≡◌, None, find, gathered, leaves_modifier_on, scripts_with}
use Rattle.keymap_check.proofs.demonstration.try_key.Given as goal

abbrev pub invariant-loop-a : goal.invariant-loop-a
invariant-loop-a l = find (leaves_modifier_on l.map) (gathered (scripts_with l.keys l.key) l.a) ≡ None
