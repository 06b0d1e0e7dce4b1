use Rattle.console_scripts.proofs.Common.{rules}
use Rattle.console_scripts.proofs.Known.{are_same_sought, tells-sought, known-more}
use Rattle.console_scripts.proofs.typing.keep.Goals as goal

pub returns : goal.returns
returns c = search (rules, known-more, are_same_sought, tells-sought)
