-- no press of a key below the code turns the scroll lock
use Rattle.keymap_core.specs.declared.action.Action.TheVariants as act
use Rattle.console_scripts.proofs.Common.{◌<◌, ℕ, Act, Takes, Scroll, state_of, under_of}
use Rattle.console_scripts.proofs.onward.key_turning.Given as goal

abbrev pub invariant-loop-code : goal.invariant-loop-code
invariant-loop-code l =
    (k : ℕ) → k < l.code → Takes (under_of l.maps) (state_of l.held) k (Act (act.Lock Scroll)) → ⊥
