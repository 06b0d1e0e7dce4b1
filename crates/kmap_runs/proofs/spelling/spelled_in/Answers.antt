use Rattle.kmap_runs.proofs.Common.{err_from_is_err_and, rules, subst}
use Rattle.kmap_runs.specs.Spelling.{AreSpelled}
use Rattle.kmap_runs.proofs.Spellings.{are-spelled-in}
use Rattle.kmap_runs.proofs.spelling.spelled_in.Goals as goal

pub returns-in_err-characters-clause-err : goal.returns-in_err-characters-clause-err
returns-in_err-characters-clause-err c =
    let why = c.characters_of.ensures.err c.args.map.now in search (rules, err_from_is_err_and, why)

pub returns-clause-ok : goal.returns-clause-ok
returns-clause-ok c =
    let (u, text) = c.in_ok-characters.ensures.ok in
    are-spelled-in c.args.board c.args.map.now c.in_ok-characters.characters.items c.args.sentence.now
    c.in_ok-spelled_among.field-0 u text
    (subst (λ cs. AreSpelled c.args.board c.args.map.now cs c.in_ok-spelled_among.field-0) c.as_slice.ensures.value
    c.in_ok-spelled_among.ensures)
