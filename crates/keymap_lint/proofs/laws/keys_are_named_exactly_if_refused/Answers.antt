use Rattle.keymap_lint.proofs.Named.{keys_are_named_exactly_if_refused}
use Rattle.keymap_lint.proofs.laws.keys_are_named_exactly_if_refused.Goals as goal

pub returns : goal.returns
returns c = keys_are_named_exactly_if_refused
