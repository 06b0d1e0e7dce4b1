-- no key below this one types the character
use Rattle.console_scripts.proofs.Common.{ℕ, ◌<◌, state_of}
use Rattle.console_scripts.specs.Inner.Courses.{Gives}
use Rattle.console_scripts.proofs.courses.Ending.key_giving.Given as goal

abbrev pub invariant-loop-code : goal.invariant-loop-code
invariant-loop-code l = (k : ℕ) → k < l.code → Gives l.map l.self (state_of l.held) k → ⊥
