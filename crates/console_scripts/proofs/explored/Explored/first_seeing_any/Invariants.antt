-- no press sees one of the sights before the place
use Rattle.console_scripts.proofs.Common.{◌≡◌, ◌<◌, ℕ, get_or, Sight, Sees}
use Rattle.console_states.specs.Looks.{IsNowhere}
use Rattle.console_scripts.proofs.explored.Explored.first_seeing_any.Given as goal

abbrev pub invariant-loop-sight : goal.invariant-loop-sight
invariant-loop-sight l =
    (n : ℕ) (x : Sight) → n < l.sight-index → get_or l.sights n x ≡ x → IsNowhere (Sees l.self x) l.self.met.entries
