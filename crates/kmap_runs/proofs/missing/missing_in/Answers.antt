use Rattle.kmap_runs.proofs.Common.{err_from_is_err_and, rules, subst}
use Rattle.std.proofs.lemmas.Result.{IfOk-weaker}
use Rattle.std.specs.Result.{IfErr}
use Rattle.kmap_runs.proofs.Untyped.{are_missing_in}
use Rattle.kmap_runs.specs.Missing.{AreMissing, AreMissingIn, IsMissingError}
use Rattle.kmap_runs.proofs.missing.missing_in.Goals as goal

pub returns-in_err-characters-clause-err : goal.returns-in_err-characters-clause-err
returns-in_err-characters-clause-err c =
    let why = c.characters_of.ensures.err c.args.map.now in search (rules, err_from_is_err_and, why)

pub returns-clause-ok : goal.returns-clause-ok
returns-clause-ok c =
    let (u, text) = c.in_ok-characters.ensures.ok in
    let cs = c.in_ok-characters.characters.items in
    IfOk-weaker c.missing_among.result _ (λ found. AreMissingIn c.args.map.now c.args.sentence.now found.items)
    (λ found are. are_missing_in c.args.map.now cs c.args.sentence.now found.items u text
    (subst (λ z. AreMissing z cs found.items) c.in_ok-typist.ensures
    (subst (λ z. AreMissing c.in_ok-typist.typist z found.items) c.as_slice.ensures.value are)))
    c.missing_among.ensures.ok

pub returns-clause-err : goal.returns-clause-err
returns-clause-err c =
    subst (λ z. IfErr c.missing_among.result (IsMissingError z c.args.sentence.now)) c.in_ok-typist.ensures
    (c.missing_among.ensures.err c.args.sentence.now)
