use Rattle.std.proofs.Common.{◌≡◌, ℕ, take}
use Rattle.keymap_core.specs.Accents.{first_result}
use Rattle.keymap_diff.specs.Inner.Pushing.{HasBase}
use Rattle.keymap_diff.proofs.compared.agree.Given as goal

-- the bases so far have the same results
abbrev pub invariant-loop-pair : goal.invariant-loop-pair
invariant-loop-pair l =
    (base : ℕ) → HasBase (take l.pair-index l.pairs) base → first_result l.old base ≡ first_result l.new base
