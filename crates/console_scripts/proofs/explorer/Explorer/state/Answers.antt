use Rattle.std.proofs.Common.{rules}
use Rattle.console_scripts.proofs.Visitable.{at-key, no-key}
use Rattle.console_scripts.proofs.explorer.Explorer.state.Goals as goal

pub returns-then-place-len : goal.returns-then-place-len
returns-then-place-len c = search (rules, no-key)

pub returns : goal.returns
returns c = search (rules, at-key)
