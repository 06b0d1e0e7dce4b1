use Rattle.std.proofs.Common.{rules}
use Rattle.console_scripts.proofs.Common.{subst, sym, AreKnown}
use Rattle.console_scripts.specs.Inner.Seeking.{AreReached}
use Rattle.console_scripts.proofs.typing.type_characters.Goals as goal

pub type_all-requires-clause-explorations : goal.type_all-requires-clause-explorations
type_all-requires-clause-explorations c = c.new-scribe.ensures.explorations c.args.map.now

pub type_all-requires-clause-reached : goal.type_all-requires-clause-reached
type_all-requires-clause-reached c =
    subst (λ z. AreReached z c.args.map.now c.new-scribe.result.seeker.courses.entries)
    (sym c.new-scribe.ensures.board) (c.new-scribe.ensures.reached c.args.map.now)

pub type_all-requires-clause-known : goal.type_all-requires-clause-known
type_all-requires-clause-known c =
    subst (λ z. AreKnown z c.args.map.now c.new-scribe.result.known.entries)
    (sym c.new-scribe.ensures.board) (c.new-scribe.ensures.known c.args.map.now)

pub returns-clause-ways : goal.returns-clause-ways
returns-clause-ways c = search rules
