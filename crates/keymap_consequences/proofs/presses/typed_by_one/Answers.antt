use Rattle.keymap_consequences.proofs.Common.{◌≡◌, ◌<◌, [], ℕ, arith, subst}
use Rattle.console_core.specs.History.{answer_to, between}
use Rattle.console_core.specs.declared.event.Event.TheVariants.{Press}
use Rattle.console_scripts.specs.Typing.{plainly}
use Rattle.console_scripts.proofs.Shared.{gains-first, gains-more, gains-whole}
use Rattle.keymap_consequences.specs.Inner.Near.{Gains, HasCharacter}
use Rattle.keymap_consequences.proofs.presses.typed_by_one.Goals as goal

pub loop-code-init : goal.loop-code-init
loop-code-init c = gains-first (HasCharacter c.no_characters-characters.result) _ c.no_characters-characters.ensures

pub loop-code-preserved : goal.loop-code-preserved
loop-code-preserved c =
    let m = c.args.map.now in
    let old = HasCharacter c.loop-code.characters in
    let now = HasCharacter c.add_typed.new.characters in
    gains-more (λ z. ⊥) old now (λ k z. answer_to (between m m) [] (Press k) ≡ plainly z) c.loop-code.code
    c.loop-code.invariant
    (subst (λ k. Gains old now (λ z. answer_to (between m m) [] (Press k) ≡ plainly z)) c.key_with.ensures
    (subst (λ a. Gains old now (λ z. a ≡ plainly z)) c.first_answer.ensures c.in_ok-add_typed.ensures))

pub returns : goal.returns
returns c =
    let m = c.args.map.now in
    let e : c.loop-code.code ≡ 128 = omega (arith, c.loop-code-test.false, c.loop-code.auto.code-end) in
    gains-whole (HasCharacter c.loop-code.characters) _ (subst (λ n. Gains (λ z. ⊥) (HasCharacter c.loop-code.characters)
    (λ z. (k : ℕ) × (k < n) × (answer_to (between m m) [] (Press k) ≡ plainly z))) e c.loop-code.invariant)
