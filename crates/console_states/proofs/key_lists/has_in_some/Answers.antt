use Rattle.console_states.proofs.Common.{under_of}
use Rattle.console_states.proofs.KeyLists.{other-key}
use Rattle.console_states.proofs.key_lists.has_in_some.Goals as goal

pub returns-else-has : goal.returns-else-has
returns-else-has c =
    λ no.
    other-key c.args.kind (under_of c.args.maps.now) c.args.key (c.has.ensures c.if-has.false)
    (c.has-else-has.ensures no)
