-- taps of the keys below the code keep the state
use Rattle.console_scripts.proofs.Common.{◌≡◌, reverse, MapValue, alone, state_of, under_of, Leads}
use Rattle.console_scripts.proofs.explorer.tap_wanted.Given as goal

abbrev pub invariant-loop-code : goal.invariant-loop-code
invariant-loop-code g l =
    (m : MapValue) → under_of l.maps ≡ alone m
    → Leads m (state_of l.held) (state_of l.held) (reverse l.fn.events.items) (reverse l.events.items)
