use Rattle.keymap_draw.proofs.Common.{◌≡◌, ◌==◌, ◌++◌, ◌∙◌, [], ◌∷◌, false, ap, sym, arith, length, nat_tests, subst}
use Rattle.keymap_draw.proofs.Common.{IfOk}
use Rattle.keymap_draw.proofs.Common.{if◌then◌else◌, numbered, silent_list, silent_name}
use Rattle.keymap_draw.specs.Facts.Fact.{End}
use Rattle.keymap_draw.specs.Lists.{silent_line}
use Rattle.keymap_draw.proofs.Loops.{three}
use Rattle.keymap_draw.proofs.lists.push_silent.Goals as goal

pub returns-in_ok-sheet-2 : goal.returns-in_ok-sheet-2
unfolding silent_list
returns-in_ok-sheet-2 c =
    let sheet = c.args.sheet in
    let names = numbered silent_name 0 c.args.accents.now in
    let some : length c.args.accents.now == 0 ≡ false = grind (arith, nat_tests, c.if-accents-eq0.false) in
    subst (λ fs. IfOk c.tell.result (λ s. s ≡ fs))
    (ap (λ l. l ++ End ∷ []) (c.in_ok-sheet-2.ensures ∙ ap (λ l. l ++ names) c.in_ok-sheet.ensures)
    ∙ three sheet (silent_line c.args.y) names (End ∷ [])
    ∙ ap (λ b. sheet ++ (if b then [] else silent_line c.args.y ++ names ++ End ∷ [])) (sym some)) c.tell.ensures
