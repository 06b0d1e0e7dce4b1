use Rattle.keymap_text.proofs.Common.{refl, sym, ◌∙◌, ap, append-nil, false, tokens_after, judge, Spelled, state_view}
use Rattle.keymap_text.proofs.reading.Reading.finish.Goals as goal

pub returns-in-Ok-clause-says : goal.returns-in-Ok-clause-says
returns-in-Ok-clause-says c =
    let r = c.args.self in
    let e = c.in-Ok.ensures.ends r.map refl in
    ap (λ t. judge (state_view r) (tokens_after 0 r.offset t))
    (append-nil r.pending.items ∙ sym c.as_slice.ensures.value) ∙ e.2 r.offset
    ∙ ap Spelled (sym e.1)

pub returns-in-Err-clause-says : goal.returns-in-Err-clause-says
returns-in-Err-clause-says c =
    let r = c.args.self in
    let e = c.in-Err.ensures.ends r.map refl in (
      false,
      ap (λ t. judge (state_view r) (tokens_after 0 r.offset t))
          (append-nil r.pending.items ∙ sym c.as_slice.ensures.value) ∙ e.1 r.offset,
    )
