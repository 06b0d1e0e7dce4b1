use Rattle.keymap_check.proofs.Common.{◌≡◌, None, find, gathered, leaves_modifier_on, tried_at}
use Rattle.keymap_check.proofs.demonstration.first_script.Given as goal

abbrev pub invariant-loop-key : goal.invariant-loop-key
invariant-loop-key l = find (leaves_modifier_on l.map) (gathered (tried_at l.map) l.key) ≡ None
