-- no press of a key below the code is allowed and sees it
use Rattle.console_states.proofs.Common.{ℕ, ◌<◌, state_of, under_of}
use Rattle.console_states.specs.AllowedSights.{SeesAllowed}
use Rattle.console_states.proofs.held.Held.key_seeing.Given as goal

abbrev pub invariant-loop-code : goal.invariant-loop-code
invariant-loop-code l = (k : ℕ) → k < l.code → SeesAllowed (under_of l.maps) (state_of l.self) k l.sight → ⊥
