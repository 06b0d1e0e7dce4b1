-- moves lead to each of the states, the start is among them, and presses of the keys that are done lead to states that
-- are like some of them
use Rattle.console_states.proofs.Common.{◌<◌, ℕ, under_of, start, AreLedTo, HasLike, IsAmong, PressesLead}
use Rattle.console_states.proofs.few.few_states.Given as goal

abbrev pub invariant-loop-code : goal.invariant-loop-code
invariant-loop-code l = record {
  led : AreLedTo (under_of l.maps) l.states.items;
  begun : IsAmong l.states.items start;
  pressed : (k : ℕ) → k < l.code → PressesLead (under_of l.maps) start k (HasLike l.states.items);
}
