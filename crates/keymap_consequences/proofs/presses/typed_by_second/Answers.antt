use Rattle.keymap_consequences.proofs.Common.{◌≡◌, ◌<◌, ◌+◌, ◌∙◌, ℕ, arith, subst}
use Rattle.console_scripts.proofs.Shared.{gains-first, gains-whole}
use Rattle.keymap_consequences.proofs.Seconds.{gains-second, gains-still}
use Rattle.keymap_consequences.specs.Inner.Near.{Changes, Gains, HasCharacter, IsTypedBehind}
use Rattle.keymap_consequences.proofs.presses.typed_by_second.Goals.{then-changes+in_ok-add_behind, else-changes}
use Rattle.keymap_consequences.proofs.presses.typed_by_second.Goals as goal

pub loop-code-init : goal.loop-code-init
loop-code-init c = gains-first (HasCharacter c.no_characters-characters.result) _ c.no_characters-characters.ensures

pub loop-code-preserved : goal.loop-code-preserved
loop-code-preserved c =
    let m = c.args.map.now in
    let at = c.key_with-first.ensures in
    elim c.if-changes.branch [
      | then-changes+in_ok-add_behind w ↦
          rw w.characters-is
          (gains-second m (λ z. ⊥) (HasCharacter c.loop-code.characters) (HasCharacter w.add_behind.new.characters)
          c.loop-code.code c.loop-code.invariant
          (subst (Changes m) at (c.changes.ensures.changes w.if-changes.true))
          (subst (λ j. Gains (HasCharacter c.loop-code.characters) (HasCharacter w.add_behind.new.characters)
          (IsTypedBehind m j)) at w.in_ok-add_behind.ensures))
      | else-changes w ↦
          rw w.characters-is
          (gains-still m (λ z. ⊥) (HasCharacter c.loop-code.characters) c.loop-code.code c.loop-code.invariant
          (subst (λ j. Changes m j → ⊥) at (c.changes.ensures.nothing w.if-changes.false)))
    ]

pub returns : goal.returns
returns c =
    let m = c.args.map.now in
    let e : c.loop-code.code ≡ 128 = omega (arith, c.loop-code-test.false, c.loop-code.auto.code-end) in
    gains-whole (HasCharacter c.loop-code.characters)
    (λ z. (j : ℕ) × (j < 128) × (Changes m j × IsTypedBehind m j z))
    (subst (λ n. Gains (λ z. ⊥) (HasCharacter c.loop-code.characters)
    (λ z. (j : ℕ) × (j < n) × (Changes m j × IsTypedBehind m j z))) e c.loop-code.invariant)
