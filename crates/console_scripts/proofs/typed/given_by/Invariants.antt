-- the codes at the places before this one were marked
use Rattle.console_scripts.proofs.Common.{◌<◌, ℕ}
use Rattle.console_scripts.specs.Inner.Places.{Gains}
use Rattle.console_scripts.specs.Inner.Tapped.{GivesAt, HasCode}
use Rattle.console_scripts.proofs.typed.given_by.Given as goal

abbrev pub invariant-loop-place : goal.invariant-loop-place
invariant-loop-place l =
    Gains (λ c. ⊥) (HasCode l.given) (λ c. (p : ℕ) × (p < l.place) × GivesAt l.map l.marks p c)
