-- no press of a key below the code sees it
use Rattle.console_states.proofs.Common.{ℕ, ◌<◌, SeesBy}
use Rattle.console_states.proofs.selection.Selection.first_seeing.Given as goal

abbrev pub invariant-loop-code : goal.invariant-loop-code
invariant-loop-code l = (k : ℕ) → k < l.code → SeesBy l.map l.self k l.sight → ⊥
