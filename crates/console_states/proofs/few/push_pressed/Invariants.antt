-- Moves lead to each of the states, which were added to those of before; presses of those that are done lead to states
-- that are like some of them.
use Rattle.console_states.proofs.Common.{◌≡◌, ◌<◌, ◌++◌, ℕ, List, get_or, under_of, state_of, AreLedTo, HasLike}
use Rattle.console_states.proofs.Common.{Held, PressesLead}
use Rattle.console_states.proofs.few.push_pressed.Given as goal

abbrev pub invariant-loop-place : goal.invariant-loop-place
invariant-loop-place l = record {
  led : AreLedTo (under_of l.maps) l.states.items;
  added : (more : List Held) × (l.states.items ≡ l.fn.states.items ++ more);
  pressed : (j : ℕ) → j < l.place → (h : Held) → get_or l.fn.states.items j h ≡ h
      → PressesLead (under_of l.maps) (state_of h) l.key (HasLike l.states.items);
}
