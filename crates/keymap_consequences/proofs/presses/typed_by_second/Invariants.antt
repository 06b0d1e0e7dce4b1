-- what is typed behind presses of the keys below this one was added
use Rattle.keymap_consequences.proofs.Common.{ℕ, ◌<◌}
use Rattle.keymap_consequences.specs.Inner.Near.{Changes, Gains, HasCharacter, IsTypedBehind}
use Rattle.keymap_consequences.proofs.presses.typed_by_second.Given as goal

abbrev pub invariant-loop-code : goal.invariant-loop-code
invariant-loop-code l =
    Gains (λ c. ⊥) (HasCharacter l.characters)
    (λ c. (j : ℕ) × (j < l.code) × (Changes l.map j × IsTypedBehind l.map j c))
