use Rattle.play_core.proofs.Common.{between, LacksEvents, ReadsScript, ReadsText, ShowsEvents, of_writer, Stays, moves}
use Rattle.play_core.proofs.Chained.{after_first}
use Rattle.play_core.proofs.playing.play.Goals as goal

pub returns-clause-run : goal.returns-clause-run
returns-clause-run g c =
    let text = moves (g.R.Read.remaining c.args.text.now) (g.R.Read.remaining c.read_text.new.text) in
    let script = moves (g.S.Read.remaining c.args.script.now) (g.S.Read.remaining c.play_script.new.script) in
    let out = moves (g.W.Write.contents c.args.out.now) (g.W.Write.contents c.play_script.new.out) in
    after_first of_writer (ReadsText text) (ReadsScript script) (Stays script) (λ v e. LacksEvents v.1 e)
    (λ v _ told. ShowsEvents c.args.show (between v.0 v.0) v.1 told) out c.in_ok-map.map c.play_script.result
    c.in_ok-map.ensures.reads c.play_script.ensures.run
