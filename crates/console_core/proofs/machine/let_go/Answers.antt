use Rattle.console_core.proofs.Common.{◌∙◌, sym}
use Rattle.console_core.proofs.Keeping.{released-cleared}
use Rattle.console_core.proofs.machine.let_go.Goals as goal

pub returns-in-Some : goal.returns-in-Some
returns-in-Some g c = rw c.set_mark.ensures (released-cleared
    (g.S.Store.kept c.args.store.now) c.args.released.now c.in-Some.holding (sym c.holding.ensures ∙ c.in-Some.is))
