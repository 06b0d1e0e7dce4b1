use Rattle.std.proofs.Common.{◌≡◌, drop}
use Rattle.keymap_core.specs.Accents.{first_result}
use Rattle.keymap_diff.proofs.compared.result_of.Given as goal

abbrev pub invariant-loop-from : goal.invariant-loop-from
invariant-loop-from l = first_result (drop l.from-index l.pairs) l.base ≡ first_result l.pairs l.base
