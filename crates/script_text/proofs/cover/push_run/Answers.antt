use Rattle.script_text.proofs.Common.{◌∙◌, ap, ◌++◌, subst, sym, ListsSlots, is_in, row_line}
use Rattle.script_text.proofs.cover.push_run.Goals as goal

pub returns-clause-lists : goal.returns-clause-lists
returns-clause-lists c =
    let l = c.args.listing.now in
    let row = c.as_slice-2.ensures.value ∙ c.in_ok-row.ensures in
    subst (ListsSlots (is_in l) l.word.now c.in_ok-end.end)
    (sym (c.in_ok-push_row.ensures
    ∙ ap (λ r. c.args.text.now.items ++ row_line l.word.now c.args.first c.in_ok-end.end r) row))
    (ListsSlots.more_slots c.args.first c.in_ok-end.end c.args.text.now.items c.requires.before
    c.in_ok-end.ensures.within.0 c.in_ok-end.ensures.alike c.in_ok-end.ensures.ends)
