-- the releases of the holders of the modifiers below the place were added
use Rattle.console_states.proofs.Common.{◌≡◌, ◌++◌, take, modifiers, releases, state_of}
use Rattle.console_states.proofs.held.Held.push_releases.Given as goal

abbrev pub invariant-loop-modifier : goal.invariant-loop-modifier
invariant-loop-modifier l =
    l.events.items ≡ l.fn.events.items ++ releases (state_of l.self) (take l.modifier-index modifiers)
