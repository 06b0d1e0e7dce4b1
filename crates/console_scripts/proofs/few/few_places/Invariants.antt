-- plain taps look up what is marked
use Rattle.console_scripts.proofs.Common.{ℕ, true}
use Rattle.console_scripts.specs.Inner.Places.{CanLookUp, IsMarked}
use Rattle.console_scripts.proofs.few.few_places.Given as goal

abbrev pub invariant-loop-held : goal.invariant-loop-held
invariant-loop-held l = (p : ℕ) → IsMarked l.marks p → CanLookUp l.map true p
