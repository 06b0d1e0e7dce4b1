use Rattle.keymap_draw.proofs.Common.{◌+◌, ◌++◌, ◌∙◌, ap, subst, length, IfOk, Tells}
use Rattle.keymap_draw.proofs.Common.{accents_list, findings_list, head, silent_list}
use Rattle.keymap_draw.specs.Changes.{marks_style}
use Rattle.keymap_draw.specs.Pictures.{colour_key, halves, parts}
use Rattle.keymap_draw.proofs.whole.draw.Goals as goal

pub returns : goal.returns
unfolding parts
returns c =
    let d = c.args.drawing.now in
    let starts = c.args.starts in
    let listed = c.args.listed in
    let end = colour_key starts.key in
    subst (λ fs. IfOk c.finish.result (λ text. Tells (fs ++ end) text.items))
    (c.in_ok-sheet-6.ensures ∙ ap (λ l. l ++ silent_list listed.silent.now starts.silent)
    (c.in_ok-sheet-5.ensures ∙ ap (λ l. l ++ accents_list d listed.named.now starts.accents)
    (c.in_ok-sheet-4.ensures
    ∙ ap (λ fs. c.in_ok-sheet-3.sheet ++ findings_list fs starts.findings) c.findings-findings.ensures.findings
    ∙ ap (λ l. l ++ findings_list d.findings starts.findings)
    (c.in_ok-sheet-3.ensures
    ∙ ap (λ l. l ++ halves d starts listed.rows.now listed.lower.now listed.upper.now)
    (c.in_ok-sheet-2.ensures ∙ ap (λ l. l ++ marks_style d)
    (c.in_ok-sheet.ensures
    ∙ ap (λ name. head name (length c.findings-findings.result.now) (starts.key + 76)) c.name.ensures.name
    ∙ ap (λ fs. head d.name (length fs) (starts.key + 76)) c.findings-findings.ensures.findings))))))
    c.finish.ensures
