-- the places of the keys before this one were marked
use Rattle.console_scripts.proofs.Common.{state_of}
use Rattle.console_scripts.specs.Inner.Places.{IsWithKeys}
use Rattle.console_scripts.proofs.places.mark_in.Given as goal

abbrev pub invariant-loop-code : goal.invariant-loop-code
invariant-loop-code l = IsWithKeys l.map (state_of l.held) l.code l.fn.marks l.marks l.are_all
