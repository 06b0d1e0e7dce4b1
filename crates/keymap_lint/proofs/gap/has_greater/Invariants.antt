use Rattle.keymap_lint.proofs.Common.{◌≡◌, false}
use Rattle.keymap_core.specs.Borne.{any_below}
use Rattle.keymap_lint.specs.Letters.{is_greater}
use Rattle.keymap_lint.proofs.gap.has_greater.Given as goal

-- none of the slots so far is defined and greater
abbrev pub invariant-loop-key : goal.invariant-loop-key
invariant-loop-key l = any_below (is_greater l.text l.slot) l.key ≡ false
