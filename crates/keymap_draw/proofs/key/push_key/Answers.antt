use Rattle.keymap_draw.proofs.Common.{◌≡◌, ◌++◌, [], ◌∷◌, ◌∙◌, ap, subst, IfOk, entry_at}
use Rattle.keymap_draw.specs.Facts.Fact.{End}
use Rattle.keymap_draw.specs.Keys.{cap as cap_of, code, key, was_text}
unfoldable use Rattle.keymap_draw.specs.Keys.{legends}
use Rattle.keymap_draw.specs.Marks.{was_of}
use Rattle.keymap_draw.proofs.Loops.{five}
use Rattle.keymap_draw.proofs.key.push_key.Goals as goal

pub returns : goal.returns
unfolding key
returns c =
    let d = c.args.drawing.now in
    let slot = c.args.slot in
    let shape = c.args.cap.shape in
    let first = cap_of d slot c.args.cap.x c.args.cap.y shape (entry_at d.map slot) in
    let second = code slot (entry_at d.map slot).flag shape ∷ [] in
    let third = legends d.map shape (entry_at d.map slot) in
    let fourth = was_text shape (was_of d slot) in
    let entry = c.entry-entry.ensures ∙ ap (λ m. entry_at m slot) c.map-map.ensures.map in
    subst (λ fs. IfOk c.tell.result (λ s. s ≡ fs))
    (ap (λ l. l ++ End ∷ [])
    (c.in_ok-sheet-4.ensures ∙ ap (λ cell. c.in_ok-sheet-3.sheet ++ was_text shape cell) c.was_of.ensures
    ∙ ap (λ l. l ++ fourth)
    (c.in_ok-sheet-3.ensures
    ∙ ap (λ m. c.in_ok-sheet-2.sheet ++ legends m shape c.entry-entry.result.now) c.map-map.ensures.map
    ∙ ap (λ e. c.in_ok-sheet-2.sheet ++ legends d.map shape e) entry
    ∙ ap (λ l. l ++ third)
    (c.in_ok-sheet-2.ensures ∙ ap (λ e. c.in_ok-sheet.sheet ++ code slot e.flag shape ∷ []) entry
    ∙ ap (λ l. l ++ second) c.in_ok-sheet.ensures)))
    ∙ five c.args.sheet first second third fourth (End ∷ [])) c.tell.ensures
