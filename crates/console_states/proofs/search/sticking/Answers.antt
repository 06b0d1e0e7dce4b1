use Rattle.std.specs.Prelude.{IfOk}
use Rattle.console_states.proofs.Common.{ap, subst}
use Rattle.console_states.specs.Sticking.{IsAnswerUnder}
use Rattle.console_states.proofs.search.sticking.Goals as goal

pub decide-requires : goal.decide-requires
decide-requires c = ap (λ u. u.minded) c.alone.ensures.alone

pub returns : goal.returns
returns c =
    subst (λ u. IfOk c.decide.result (λ answer. IsAnswerUnder u answer)) c.alone.ensures.alone c.decide.ensures
