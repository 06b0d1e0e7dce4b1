use Rattle.keymap_consequences.proofs.Common.{◌≡◌, ◌<◌, ◌∷◌, [], ℕ, arith, subst}
use Rattle.console_core.specs.History.{answer_to, between}
use Rattle.console_core.specs.declared.event.Event.TheVariants.{Press}
use Rattle.console_scripts.specs.Typing.{plainly}
use Rattle.console_scripts.proofs.Shared.{gains-more, gains-none}
use Rattle.keymap_consequences.specs.Consequences.{before_second}
use Rattle.keymap_consequences.specs.Inner.Near.{Gains, HasCharacter}
use Rattle.keymap_consequences.proofs.presses.add_behind.Goals as goal

pub loop-code-init : goal.loop-code-init
loop-code-init c =
    gains-none (HasCharacter c.args.characters.now) _ (λ z x. let lt = x.1 in omega (arith, lt))

pub loop-code-preserved : goal.loop-code-preserved
loop-code-preserved c =
    let m = c.args.map.now in
    let j = c.args.first in
    let mid = HasCharacter c.loop-code.characters in
    let now = HasCharacter c.add_typed.new.characters in
    let answers =
    c.second_answer.ensures m (c.step.ensures.next (between m m) [] c.new-console.ensures) in
    gains-more (HasCharacter c.args.characters.now) mid now
    (λ k z. answer_to (between m m) (before_second j k) (Press k) ≡ plainly z) c.loop-code.code c.loop-code.invariant
    (subst (λ k. Gains mid now (λ z. answer_to (between m m) (before_second j k) (Press k) ≡ plainly z))
    c.key_with.ensures
    (subst (λ a. Gains mid now (λ z. a ≡ plainly z)) answers c.in_ok-add_typed.ensures))

pub returns : goal.returns
returns c =
    let m = c.args.map.now in
    let j = c.args.first in
    let e : c.loop-code.code ≡ 128 = omega (arith, c.loop-code-test.false, c.loop-code.auto.code-end) in
    subst (λ n. Gains (HasCharacter c.args.characters.now) (HasCharacter c.loop-code.characters)
    (λ z. (k : ℕ) × (k < n) × (answer_to (between m m) (before_second j k) (Press k) ≡ plainly z))) e
    c.loop-code.invariant
