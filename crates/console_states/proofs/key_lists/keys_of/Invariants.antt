-- the keys below the code that have a cell of the kind
use Rattle.console_states.proofs.Common.{under_of, AreKeysOf}
use Rattle.console_states.proofs.key_lists.keys_of.Given as goal

abbrev pub invariant-loop-code : goal.invariant-loop-code
invariant-loop-code l = AreKeysOf l.kind (under_of l.maps) l.keys.items l.code
