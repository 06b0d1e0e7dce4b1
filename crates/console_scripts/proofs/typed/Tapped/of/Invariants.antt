-- the symbols at the places before this one were added
use Rattle.console_scripts.proofs.Common.{◌<◌, ℕ}
use Rattle.console_scripts.specs.Inner.Places.{Gains}
use Rattle.console_scripts.specs.Inner.Tapped.{HasSymbol, IsSymbolAt}
use Rattle.console_scripts.proofs.typed.Tapped.of.Given as goal

abbrev pub invariant-loop-place : goal.invariant-loop-place
invariant-loop-place l =
    Gains (λ x. ⊥) (HasSymbol l.tapped) (λ x. (p : ℕ) × (p < l.place) × IsSymbolAt l.map l.marks p x)
