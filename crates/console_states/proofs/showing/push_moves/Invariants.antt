-- the events of the moves before the place were added
use Rattle.console_states.proofs.Common.{◌≡◌, ◌++◌, reverse, take, events_along}
use Rattle.console_states.proofs.showing.push_moves.Given as goal

abbrev pub invariant-loop-by : goal.invariant-loop-by
invariant-loop-by l =
    reverse l.events.items ≡ events_along (reverse (take l.by-index l.moves)) ++ reverse l.fn.events.items
