use Rattle.keymap_draw.proofs.Common.{◌≡◌, ◌++◌, ◌∙◌, accent_words, subst, sym, true, false, IfOk}
use Rattle.keymap_draw.specs.Lists.{changed_row_of, row_of}
use Rattle.keymap_draw.specs.Marks.{has_other_accent}
use Rattle.keymap_draw.proofs.lists.begin_accent.Goals as goal

pub returns-then-has_other_accent : goal.returns-then-has_other_accent
returns-then-has_other_accent c =
    let other : has_other_accent c.args.drawing.now c.args.index ≡ true =
    sym c.has_other_accent.ensures ∙ c.if-has_other_accent.true in
    rw other (subst (λ line. IfOk c.tell.result (λ s. s
    ≡ c.args.sheet ++ changed_row_of (accent_words c.args.index c.args.accent.now) line c.args.y))
    c.line.ensures.words
    (subst (λ said. IfOk c.tell.result (λ s. s ≡ c.args.sheet ++ changed_row_of said c.line.result.now c.args.y))
    (c.as_slice.ensures.value ∙ c.title-title.ensures.words) c.tell.ensures))

pub returns-else-has_other_accent : goal.returns-else-has_other_accent
returns-else-has_other_accent c =
    let same : has_other_accent c.args.drawing.now c.args.index ≡ false =
    sym c.has_other_accent.ensures ∙ c.if-has_other_accent.false in
    rw same (subst (λ said. IfOk c.tell-else-has_other_accent.result (λ s. s ≡ c.args.sheet ++ row_of said c.args.y))
    (c.as_slice.ensures.value ∙ c.title-title.ensures.words) c.tell-else-has_other_accent.ensures)
