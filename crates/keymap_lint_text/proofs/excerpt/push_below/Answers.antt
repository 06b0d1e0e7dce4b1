use Rattle.keymap_lint_text.proofs.Common.{◌∙◌, ◌++◌, [], ◌∷◌, ap, append_assoc, below, map, sym, take}
use Rattle.std.proofs.lemmas.List.{map_more}
use Rattle.keymap_lint_text.proofs.excerpt.push_below.Goals as goal

pub loop-c-preserved : goal.loop-c-preserved
loop-c-preserved c =
    let old = c.args.text.now.items in
    let done = map below (take c.loop-c.c-index c.args.characters.now) in
    c.in_ok-push.ensures.items ∙ ap (λ t. t ++ c.below.result ∷ []) c.loop-c.invariant
    ∙ append_assoc old done (c.below.result ∷ [])
    ∙ ap (λ b. old ++ (done ++ b ∷ [])) (c.below.ensures ∙ ap below c.c-item.is)
    ∙ ap (λ t. old ++ t) (sym (map_more below _ c.loop-c.c-index c.c-item.result c.loop-c-test.true))
