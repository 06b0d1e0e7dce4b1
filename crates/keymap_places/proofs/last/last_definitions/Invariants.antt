use Rattle.keymap_places.proofs.Common.{take, HasLast}
use Rattle.keymap_places.proofs.last.last_definitions.Given as goal

-- the last ones of those that were passed
abbrev pub invariant-loop-definition : goal.invariant-loop-definition
invariant-loop-definition l = HasLast l.last (take l.definition-index l.definitions)
