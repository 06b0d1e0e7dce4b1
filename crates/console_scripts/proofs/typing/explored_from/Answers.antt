use Rattle.console_scripts.proofs.Common.{ap, sym, ◌∙◌, option_copied, IsExploredFrom, rules}
use Rattle.console_scripts.proofs.Entries.{found-by_state, none-found}
use Rattle.console_scripts.proofs.typing.explored_from.Goals as goal

pub unreachable-requires : goal.unreachable-requires
unreachable-requires c = search (rules, none-found)

pub returns : goal.returns
returns c =
    λ m all.
    found-by_state (IsExploredFrom m) c.args.explorations.now.entries c.args.from.now _ all
    (sym c.get.ensures.value ∙ ap option_copied c.in-Some.is)
