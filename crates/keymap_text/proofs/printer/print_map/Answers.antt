use Rattle.keymap_text.proofs.Common.{refl, sym, append-nil, Gathers-start, StopsIn-more, passed_on}
use Rattle.keymap_text.proofs.printer.print_map.Goals as goal

pub returns-in_err-print_keys-clause-bytes : goal.returns-in_err-print_keys-clause-bytes
returns-in_err-print_keys-clause-bytes g c =
    passed_on _ _ _ _ c.from_residual.ensures.1
    (StopsIn-more _ _ _ _ _ _ refl
    (c.in_err-print_keys.ensures.bytes _ _ (Gathers-start (g.W.Write.contents c.args.writer.now) _
    c.new-stream.ensures.empty c.new-stream.ensures.none)))

pub returns-in_err-print_accents-clause-bytes : goal.returns-in_err-print_accents-clause-bytes
returns-in_err-print_accents-clause-bytes g c =
    let start = Gathers-start (g.W.Write.contents c.args.writer.now) _ c.new-stream.ensures.empty
    c.new-stream.ensures.none in
    passed_on _ _ _ _ c.from_residual-in_err-print_accents.ensures.1
    (StopsIn-more _ _ _ _ _ _ (sym (append-nil _))
    (c.in_err-print_accents.ensures.bytes _ _ (c.in_ok-print_keys.ensures.bytes _ _ start)))

pub returns-clause-bytes : goal.returns-clause-bytes
returns-clause-bytes g c =
    let start = Gathers-start (g.W.Write.contents c.args.writer.now) _ c.new-stream.ensures.empty
    c.new-stream.ensures.none in
    c.finish.ensures.bytes _ _ (c.in_ok-print_accents.ensures.bytes _ _ (c.in_ok-print_keys.ensures.bytes _ _ start))
