use Rattle.keymap_places.proofs.Common.{◌≤◌, ◌+◌, List, ℕ, length, subst, sym, ap, ◌∙◌, AreLines, line}
use Rattle.keymap_places.proofs.LineStarts.{found_end, same_number}
use Rattle.keymap_places.proofs.text_line.TextLines.number_at.Goals as goal

pub returns : goal.returns
returns c =
    let b = c.self.inside.text.now in
    let place = c.args.place in
    let within : place ≤ length b = subst (λ t. place ≤ length t) (sym c.self.view_is) c.requires in
    let lines : AreLines b c.as_slice.result.now =
    subst (λ (t : List ℕ). AreLines b t) (sym c.as_slice.ensures.value) c.self.invariant in
    let i = c.line_index.result in
    let e = c.line_index.ensures in
    sym (same_number b (i + 1) _ place (lines.lines.each i e.inside) e.begins
    (found_end b c.as_slice.result.now i place lines e.inside e.begins e.next within))
    ∙ ap (λ t. line t place) c.self.view_is
