use Rattle.keymap_places.proofs.Common.{◌+◌}
use Rattle.keymap_places.proofs.LineStarts.{before_is, found_end, on_line}
use Rattle.keymap_places.proofs.text_line.before_place.Goals as goal

pub returns : goal.returns
returns c =
    let i = c.line_index.result in
    let b = c.args.text.now in
    let ss = c.args.starts.now in
    let e = c.line_index.ensures in
    before_is b _ c.args.place c.requires.place
    (on_line b (i + 1) _ c.args.place (c.requires.starts.lines.each i e.inside) e.begins
    (found_end b ss i c.args.place c.requires.starts e.inside e.begins e.next c.requires.place) c.requires.place)
