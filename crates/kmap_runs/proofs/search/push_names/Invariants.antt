use Rattle.kmap_runs.proofs.Common.{◌≡◌, ◌++◌, take, flat_map, modifier_name}
use Rattle.kmap_runs.proofs.search.push_names.Given as goal

abbrev pub invariant-loop-modifier : goal.invariant-loop-modifier
invariant-loop-modifier l = l.text.items ≡ l.fn.text.items ++ flat_map modifier_name (take l.modifier-index l.modifiers)
