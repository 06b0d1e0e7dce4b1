use Rattle.std.proofs.Common.{ne_eqb}
use Rattle.std.proofs.lemmas.Bool.{eq-eqb}
use Rattle.keymap_consequences.proofs.Common.{◌∙◌, ◌≡◌, ◌∷◌, [], sym, subst}
use Rattle.console_core.specs.History.{answer_to, between}
use Rattle.console_core.specs.declared.event.Event.TheVariants.{Press, Release}
use Rattle.keymap_consequences.proofs.presses.second_answer.Goals as goal

pub returns-then-get : goal.returns-then-get
returns-then-get c = λ m stands.
    let e : c.args.first ≡ c.args.key = sym c.get.ensures.same ∙ c.if-get.true ∙ c.get-2.ensures.same in
    rw (eq-eqb c.args.first c.args.key e)
    (subst (λ k. c.again.result
    ≡ answer_to (between m m) (Release c.args.first ∷ Press c.args.first ∷ []) (Press k)) e (c.again.ensures m stands))

pub returns : goal.returns
returns c = λ m stands.
    rw (ne_eqb c.args.first c.args.key
    (λ e. c.if-get.false (c.get.ensures.same ∙ e ∙ sym c.get-2.ensures.same)))
    (c.step.ensures.answer (between m m) (Press c.args.first ∷ []) (c.copied-console.ensures (between m m) _ stands))
