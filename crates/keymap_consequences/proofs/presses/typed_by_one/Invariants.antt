-- what presses of the keys below this one type was added
use Rattle.keymap_consequences.proofs.Common.{ℕ, ◌<◌, ◌≡◌, []}
use Rattle.console_core.specs.History.{answer_to, between}
use Rattle.console_core.specs.declared.event.Event.TheVariants.{Press}
use Rattle.console_scripts.specs.Typing.{plainly}
use Rattle.keymap_consequences.specs.Inner.Near.{Gains, HasCharacter}
use Rattle.keymap_consequences.proofs.presses.typed_by_one.Given as goal

abbrev pub invariant-loop-code : goal.invariant-loop-code
invariant-loop-code l =
    Gains (λ c. ⊥) (HasCharacter l.characters)
    (λ c. (k : ℕ) × (k < l.code) × (answer_to (between l.map l.map) [] (Press k) ≡ plainly c))
