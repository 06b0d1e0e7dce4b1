-- what presses of the keys below this one type behind that of the first was added
use Rattle.keymap_consequences.proofs.Common.{ℕ, ◌<◌, ◌≡◌}
use Rattle.console_core.specs.History.{answer_to, between}
use Rattle.console_core.specs.declared.event.Event.TheVariants.{Press}
use Rattle.console_scripts.specs.Typing.{plainly}
use Rattle.keymap_consequences.specs.Consequences.{before_second}
use Rattle.keymap_consequences.specs.Inner.Near.{Gains, HasCharacter}
use Rattle.keymap_consequences.proofs.presses.add_behind.Given as goal

abbrev pub invariant-loop-code : goal.invariant-loop-code
invariant-loop-code l =
    Gains (HasCharacter l.fn.characters) (HasCharacter l.characters)
    (λ c. (k : ℕ) × (k < l.code)
    × (answer_to (between l.map l.map) (before_second l.first k) (Press k) ≡ plainly c))
