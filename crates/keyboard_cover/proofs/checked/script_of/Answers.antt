use Rattle.std.proofs.Common.{subst, sym}
use Rattle.console_core.specs.History.{between}
use Rattle.keyboard_cover.specs.Runs.{run_events}
use Rattle.keyboard_cover.proofs.Covering.{no-cases}
use Rattle.keyboard_cover.proofs.checked.script_of.Goals as goal

pub loop-draft-init : goal.loop-draft-init
loop-draft-init g c = (
  subst (λ z. g.T.Translator.stands c.args.console.now (between c.args.map.now c.args.map.now) (run_events z))
      (sym c.new.ensures.items) c.requires,
  no-cases c.args.map.now c.args.presses _ c.new.ensures.items c.new-2.ensures.items c.in_ok-new.ensures,
)
