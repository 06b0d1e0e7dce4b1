use Rattle.console_scripts.proofs.Common.{start}
use Rattle.console_scripts.proofs.KeyWays.{lacks-ways}
use Rattle.console_scripts.proofs.by_key.type_by.Goals as goal

pub returns-then-not-may_type-clause-typed : goal.returns-then-not-may_type-clause-typed
returns-then-not-may_type-clause-typed c =
    lacks-ways c.args.scribe.now.seeker.board c.args.map.now start c.args.character c.args.key
    (c.may_type.ensures c.if-not-may_type.true)

pub returns-clause-typed : goal.returns-clause-typed
returns-clause-typed c = rw c.get.ensures.same at c.type_alone.ensures.typed
