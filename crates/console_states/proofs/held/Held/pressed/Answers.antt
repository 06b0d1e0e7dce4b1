use Rattle.console_states.proofs.Common.{refl, ap, sym, ◌∙◌, Act, state_of, under_of}
use Rattle.console_states.proofs.Searching.{pressed-mod, pressed-lock, pressed-dead}
use Rattle.console_states.proofs.held.Held.pressed.Goals as goal

pub returns-then-allows-clause-leads : goal.returns-then-allows-clause-leads
returns-then-allows-clause-leads c =
    pressed-mod (under_of c.args.maps.now) (state_of c.args.self.now) c.args.key c.in-Act-Mod.modifier _
    (sym c.look.ensures.value ∙ c.in-Act-Mod.is ∙ ap (λ x. Act x) c.in-Act-Mod.field-0-is)
    (_, refl, c.with_holder.ensures)

pub returns-then-allows-2-clause-leads : goal.returns-then-allows-2-clause-leads
returns-then-allows-2-clause-leads c =
    pressed-lock (under_of c.args.maps.now) (state_of c.args.self.now) c.args.key c.in-Act-Lock.lock _
    (sym c.look.ensures.value ∙ c.in-Act-Lock.is ∙ ap (λ x. Act x) c.in-Act-Lock.field-0-is)
    (_, refl, c.with_turned.ensures)

pub returns-in-Act-DeadKey-clause-leads : goal.returns-in-Act-DeadKey-clause-leads
returns-in-Act-DeadKey-clause-leads c =
    pressed-dead (under_of c.args.maps.now) (state_of c.args.self.now) c.args.key c.in-Act-DeadKey.field-0-0 _
    (sym c.look.ensures.value ∙ c.in-Act-DeadKey.is ∙ ap (λ x. Act x) c.in-Act-DeadKey.field-0-is)
    c.tapped.ensures.leads
