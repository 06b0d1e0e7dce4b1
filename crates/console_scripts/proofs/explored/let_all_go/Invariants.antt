-- the holders of the modifiers so far have let go
use Rattle.console_scripts.proofs.Common.{reverse, state_of}
use Rattle.console_scripts.proofs.Taps.{LetsGoTo}
use Rattle.console_scripts.proofs.explored.let_all_go.Given as goal

abbrev pub invariant-loop-modifier : goal.invariant-loop-modifier
invariant-loop-modifier l =
    LetsGoTo (state_of l.from) (reverse l.fn.events.items) (reverse l.events.items) (state_of l.held)
    l.modifier-index
