use Rattle.std.proofs.Common.{rules}
use Rattle.console_scripts.proofs.Marking.{gains-more, gains-first, gains-whole}
use Rattle.console_scripts.specs.Inner.Tapped.{HasSymbol}
use Rattle.console_scripts.proofs.typed.Tapped.of.Goals as goal

pub loop-place-init : goal.loop-place-init
loop-place-init c = gains-first (HasSymbol c.new-tapped.result) _ c.new-tapped.ensures

pub loop-place-preserved : goal.loop-place-preserved
loop-place-preserved c = search (rules, gains-more)

pub returns : goal.returns
returns c = search (rules, gains-whole)
