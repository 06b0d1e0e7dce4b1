use Rattle.keymap_check.proofs.Common.{◌≡◌, None, find, gathered, leaves_modifier_on, scripts_of}
use Rattle.keymap_check.proofs.demonstration.try_from.Given as goal

abbrev pub invariant-loop-b : goal.invariant-loop-b
invariant-loop-b l = find (leaves_modifier_on l.map) (gathered (scripts_of l.keys l.key l.a.bits) l.b) ≡ None
