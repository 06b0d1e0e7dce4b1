-- no key below this one is tapped so
use Rattle.console_scripts.proofs.Common.{◌≡◌, ◌<◌, ℕ, false, Under, map_in, IsTapOf, state_of}
use Rattle.console_scripts.proofs.explored.key_tapping.Given as goal

abbrev pub invariant-loop-code : goal.invariant-loop-code
invariant-loop-code l =
    (u : Under) → map_in u (state_of l.held) ≡ l.map → (k : ℕ) → k < l.code
    → IsTapOf u (state_of l.held) false l.symbol k
    → ⊥
