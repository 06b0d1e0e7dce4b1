-- what letting go of the modifiers below the place leads to was met
use Rattle.console_states.proofs.Common.{◌≡◌, ◌<◌, ℕ, None, modifier_index, Under, Holds, with_holder, state_of}
use Rattle.console_states.proofs.Common.{AreWithin, AreAdded, IsMetBy, Modifier}
use Rattle.console_states.proofs.search.meet_let_gos.Given as goal

abbrev pub invariant-loop-modifier : goal.invariant-loop-modifier
invariant-loop-modifier l = record {
  within : AreWithin l.met.entries l.presses;
  met : (n : ℕ) → n < l.modifier-index → (i : Modifier) → modifier_index i ≡ n → (k : ℕ) → Holds (state_of l.held) k i
      → IsMetBy l.met.entries l.presses (with_holder (state_of l.held) i None);
  added : (u : Under) → AreAdded u (state_of l.held) l.place 0 l.presses l.fn.met.entries l.met.entries;
}
