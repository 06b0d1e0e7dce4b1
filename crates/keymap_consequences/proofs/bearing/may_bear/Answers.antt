use Rattle.keymap_consequences.proofs.Common.{◌+◌, subst}
use Rattle.keymap_consequences.specs.Inner.Keys.{SlotBearsNothing}
use Rattle.keymap_consequences.proofs.bearing.may_bear.Goals as goal

pub returns : goal.returns
returns c = λ e. (
  subst (λ s. SlotBearsNothing c.args.map.now s) c.get.ensures.same (c.has_holding.ensures c.if-has_holding.false),
  subst (λ s. SlotBearsNothing c.args.map.now (s + 128)) c.get-2.ensures.same (c.has_holding-2.ensures e),
)
