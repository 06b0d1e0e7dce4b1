-- what the states before the place led to
use Rattle.console_scripts.proofs.Common.{under_of}
use Rattle.console_scripts.proofs.RoutesHome.{Settled}
use Rattle.console_scripts.proofs.routes.settle.Given as goal

abbrev pub invariant-loop-held : goal.invariant-loop-held
invariant-loop-held l =
    Settled (under_of l.maps) l.fn.routes.entries l.states l.held-index l.routes.entries l.rest.items
