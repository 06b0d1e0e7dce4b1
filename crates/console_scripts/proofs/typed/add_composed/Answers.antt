use Rattle.std.proofs.Common.{rules}
use Rattle.console_scripts.proofs.Common.{ap, option_copied, sym, ◌∙◌}
use Rattle.console_scripts.proofs.Marking.{gains-more}
use Rattle.console_scripts.proofs.Tapping.{accents-none, accents-all}
use Rattle.console_scripts.proofs.typed.add_composed.Goals as goal

pub loop-accent-init : goal.loop-accent-init
loop-accent-init c = search (rules, accents-none)

pub loop-accent-preserved : goal.loop-accent-preserved
loop-accent-preserved c = search (rules, gains-more)

pub returns : goal.returns
returns c =
    accents-all c.args.map.now c.args.tapped.now c.args.plain.now c.loop-accent.index c.args.typed.now
    c.loop-accent.typed (sym c.accent.ensures.value ∙ ap option_copied c.in_default.is) c.loop-accent.invariant.gains
