use Rattle.play_core.proofs.Common.{err_from_is_err_and, Keeps-refl, between, LacksEvents, ReadsScript, rules}
use Rattle.play_core.proofs.Common.{ReadsText, ShowsEvents, of_writer, ReadsBoth, Stays, moves}
use Rattle.play_core.specs.Playing.{ReadsNext}
use Rattle.play_core.proofs.Chained.{after_first}
use Rattle.play_core.proofs.playing.play_next.Goals as goal

pub returns-in_err-first-clause-run : goal.returns-in_err-first-clause-run
returns-in_err-first-clause-run g c = search (rules, err_from_is_err_and, Keeps-refl)

pub returns-in_err-second-clause-run : goal.returns-in_err-second-clause-run
returns-in_err-second-clause-run g c = search (rules, err_from_is_err_and, Keeps-refl)

pub returns-clause-run : goal.returns-clause-run
returns-clause-run g c =
    let text = moves (g.R.Read.remaining c.args.text.now) (g.R.Read.remaining c.read_text.new.text) in
    let next = moves (g.N.Read.remaining c.args.next.now) (g.N.Read.remaining c.read_next.new.next) in
    let script = moves (g.S.Read.remaining c.args.script.now) (g.S.Read.remaining c.play_script.new.script) in
    let out = moves (g.W.Write.contents c.args.out.now) (g.W.Write.contents c.play_script.new.out) in
    after_first of_writer (ReadsBoth (ReadsText text) (ReadsNext next) (Stays next)) (ReadsScript script) (Stays script)
    (λ v e. LacksEvents v.1 e) (λ v _ told. ShowsEvents c.args.show (between v.0.0 v.0.1) v.1 told) out
    (c.in_ok-first.first, c.in_ok-second.second) c.play_script.result
    (c.in_ok-first.ensures.reads, c.in_ok-second.ensures.reads) c.play_script.ensures.run
