-- presses meet the changes below the place
use Rattle.std.proofs.Common.{◌≡◌, ◌<◌, ℕ, get_or}
use Rattle.keymap_diff.specs.Inner.Versions.{IsMet}
use Rattle.keymap_diff.specs.Types.{Change}
use Rattle.keymap_diff.proofs.marking.are_met.Given as goal

abbrev pub invariant-loop-change : goal.invariant-loop-change
invariant-loop-change l =
    (k : ℕ) → k < l.change-index → (x : Change) → get_or l.found k x ≡ x → IsMet l.old l.new x
