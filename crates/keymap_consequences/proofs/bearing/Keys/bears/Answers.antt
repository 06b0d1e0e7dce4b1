use Rattle.keymap_consequences.proofs.Common.{◌≡◌, ◌+◌, ◌∙◌, false, subst, sym, true}
use Rattle.std.proofs.Common.{get_or}
use Rattle.keymap_core.specs.Actions.{holding_action}
use Rattle.keymap_core.specs.Borne.{has_in_slot}
use Rattle.keymap_consequences.proofs.Holders.{bears-dead, bears-lower, bears-none, bears-quiet, bears-upper}
use Rattle.keymap_consequences.proofs.bearing.Keys.bears.Goals as goal

pub returns-then-not-self-from-clause-none : goal.returns-then-not-self-from-clause-none
returns-then-not-self-from-clause-none c = λ e.
    bears-quiet c.args.self.now.map.now c.args.key c.args.holding
    (c.requires.keys.quiet c.args.key c.requires.key
    (subst (λ i. get_or c.args.self.now.may_bear i false ≡ false) (c.from.ensures ∙ c.get.ensures.same)
    c.if-not-self-from.true))

pub returns-then-has_in_slot-clause-bears : goal.returns-then-has_in_slot-clause-bears
returns-then-has_in_slot-clause-bears c = λ e.
    bears-lower c.args.self.now.map.now c.args.key c.args.holding
    (subst (λ s. has_in_slot c.args.self.now.map.now (holding_action c.args.holding) s ≡ true) c.get-2.ensures.same
    (sym c.has_in_slot.ensures ∙ c.if-has_in_slot.true))

pub returns-then-not-self-clause-none : goal.returns-then-not-self-clause-none
returns-then-not-self-clause-none c = λ e.
    bears-dead c.args.self.now.map.now c.args.key c.args.holding
    (subst (λ s. has_in_slot c.args.self.now.map.now (holding_action c.args.holding) s ≡ false) c.get-2.ensures.same
    (sym c.has_in_slot.ensures ∙ c.if-has_in_slot.false))
    (sym c.requires.keys.live ∙ c.if-not-self.true)

pub returns-clause-bears : goal.returns-clause-bears
returns-clause-bears c = λ e.
    bears-upper c.args.self.now.map.now c.args.key c.args.holding (sym c.requires.keys.live ∙ c.if-not-self.false)
    (subst (λ s. has_in_slot c.args.self.now.map.now (holding_action c.args.holding) (s + 128) ≡ true)
    c.get-3.ensures.same (sym c.has_in_slot-2.ensures ∙ e))

pub returns-clause-none : goal.returns-clause-none
returns-clause-none c = λ e.
    bears-none c.args.self.now.map.now c.args.key c.args.holding
    (subst (λ s. has_in_slot c.args.self.now.map.now (holding_action c.args.holding) s ≡ false) c.get-2.ensures.same
    (sym c.has_in_slot.ensures ∙ c.if-has_in_slot.false))
    (subst (λ s. has_in_slot c.args.self.now.map.now (holding_action c.args.holding) (s + 128) ≡ false)
    c.get-3.ensures.same (sym c.has_in_slot-2.ensures ∙ e))
