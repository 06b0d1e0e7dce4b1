use Rattle.keymap_consequences.proofs.Common.{◌≡◌, ◌∙◌, ℕ, ap, sym}
use Rattle.console_core.specs.declared.event.Answer.{Answer}
use Rattle.console_core.specs.declared.event.Answer.TheVariants as answer
use Rattle.console_scripts.specs.Typing.{plainly}
use Rattle.console_scripts.proofs.Shared.{gains-insert, gains-none, gains-same}
use Rattle.keymap_consequences.specs.Inner.Near.{HasCharacter}
use Rattle.keymap_consequences.proofs.presses.add_typed.Goals as goal

abbrev character_of : Answer → ℕ
character_of (answer.Char c meta) = c
character_of _ = 0

pub returns-in_default : goal.returns-in_default
returns-in_default c =
    gains-none (HasCharacter c.args.characters.now) (λ z. c.args.answer ≡ plainly z) c.in_default.ensures

pub returns : goal.returns
returns c =
    let is : c.args.answer ≡ plainly c.in-Some.c = c.in-Some.ensures in
    gains-same (HasCharacter c.args.characters.now) (HasCharacter c.insert.new.self) (λ z. z ≡ c.in-Some.c)
    (λ z. c.args.answer ≡ plainly z)
    (λ z. ((λ e. is ∙ ap plainly (sym e)), λ e. ap character_of (sym e ∙ is)))
    (gains-insert c.args.characters.now c.insert.new.self c.in-Some.c c.in_ok-insert.ensures.updates)
