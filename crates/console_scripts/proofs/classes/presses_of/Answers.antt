use Rattle.console_scripts.proofs.ClassPresses.{presses-are}
use Rattle.console_scripts.proofs.classes.presses_of.Goals as goal

pub returns-clause-presses : goal.returns-clause-presses
returns-clause-presses c =
    presses-are c.args.board c.args.class c.args.spared _ c.keys_of.ensures c.actions_of.ensures
