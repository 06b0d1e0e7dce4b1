use Rattle.keymap_lint.proofs.Common.{◌≡◌, false}
use Rattle.keymap_core.specs.Borne.{any_below}
use Rattle.keymap_lint.specs.Capitals.{is_wide_slot}
use Rattle.keymap_lint.proofs.capitals.has_wide.Given as goal

-- none of the slots so far has one
abbrev pub invariant-loop-number : goal.invariant-loop-number
invariant-loop-number l = any_below (is_wide_slot l.map) l.number ≡ false
