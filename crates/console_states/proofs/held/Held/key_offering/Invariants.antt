-- no key below the code offers it
use Rattle.console_states.proofs.Common.{◌<◌, ℕ, Offers, state_of, under_of}
use Rattle.console_states.proofs.held.Held.key_offering.Given as goal

abbrev pub invariant-loop-code : goal.invariant-loop-code
invariant-loop-code l = (k : ℕ) → k < l.code → Offers (under_of l.maps) (state_of l.self) k l.accent → ⊥
