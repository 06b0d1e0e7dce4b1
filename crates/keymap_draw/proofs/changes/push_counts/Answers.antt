use Rattle.keymap_draw.proofs.Common.{◌≡◌, ◌==◌, ◌≤◌, ◌++◌, ◌∷◌, [], ◌∙◌, Bool, List, ap, arith, codes, decimal}
use Rattle.keymap_draw.proofs.Common.{false, true, filter, length, nat_tests, not, refl, subst, sym, IfOk}
use Rattle.std.proofs.lemmas.List.Filters.{length-filter_both}
use Rattle.keymap_draw.specs.Changes.{accents_in, accents_noun, changed_from, noun_in, slots_in}
use Rattle.keymap_draw.specs.Facts.{headline_at}
use Rattle.keymap_draw.proofs.changes.push_counts.Goals as goal

-- no more pass than there are
few : {A : Type 0} (p : A → Bool) (xs : List A) → length (filter p xs) ≤ length xs
few p xs = omega (arith, length-filter_both p (λ x. not (p x)) (λ x. refl) xs)

pub overflow_cast-slot_count : goal.overflow_cast-slot_count
overflow_cast-slot_count c = grind (arith, few, c.slots_in-slots.ensures, c.requires.few)

pub overflow_cast-accent_count : goal.overflow_cast-accent_count
overflow_cast-accent_count c = grind (arith, few, c.accents_in-accents.ensures, c.requires.few)

pub returns-then-accents-eq0 : goal.returns-then-accents-eq0
returns-then-accents-eq0 c =
    let lines = c.args.lines.now in
    let from = changed_from c.args.name.now in
    let none : accents_in lines ≡ 0 = sym c.accents_in-accents.ensures ∙ c.if-accents-eq0.true in
    rw none (subst (λ n. IfOk c.tell.result (λ s. s ≡ c.args.sheet
    ++ headline_at c.args.y (codes "h") (from ++ decimal n ++ codes " " ++ noun_in lines) ∷ []))
    c.slots_in-slots.ensures
    (subst (λ noun. IfOk c.tell.result (λ s. s ≡ c.args.sheet
    ++ headline_at c.args.y (codes "h") (from ++ decimal c.slots_in-slots.result ++ codes " " ++ noun) ∷ []))
    c.noun_in.ensures.value c.tell.ensures))

pub returns-then-slots-eq0 : goal.returns-then-slots-eq0
returns-then-slots-eq0 c =
    let lines = c.args.lines.now in
    let from = changed_from c.args.name.now in
    let some : accents_in lines == 0 ≡ false =
    ap (λ n. n == 0) (sym c.accents_in-accents.ensures) ∙ grind (arith, nat_tests, c.if-accents-eq0.false) in
    let none : slots_in lines == 0 ≡ true =
    ap (λ n. n == 0) (sym c.slots_in-slots.ensures ∙ c.if-slots-eq0.true) in
    rw (some, none) (subst (λ n. IfOk c.tell-then-slots-eq0.result (λ s. s ≡ c.args.sheet
    ++ headline_at c.args.y (codes "h") (from ++ decimal n ++ codes " " ++ accents_noun n) ∷ []))
    c.accents_in-accents.ensures
    (subst (λ noun. IfOk c.tell-then-slots-eq0.result (λ s. s ≡ c.args.sheet
    ++ headline_at c.args.y (codes "h") (from ++ decimal c.accents_in-accents.result ++ codes " " ++ noun) ∷ []))
    c.accents_noun.ensures.value c.tell-then-slots-eq0.ensures))

pub returns-else-slots-eq0 : goal.returns-else-slots-eq0
returns-else-slots-eq0 c =
    let lines = c.args.lines.now in
    let from = changed_from c.args.name.now in
    let more : accents_in lines == 0 ≡ false =
    ap (λ n. n == 0) (sym c.accents_in-accents.ensures) ∙ grind (arith, nat_tests, c.if-accents-eq0.false) in
    let some : slots_in lines == 0 ≡ false =
    ap (λ n. n == 0) (sym c.slots_in-slots.ensures) ∙ grind (arith, nat_tests, c.if-slots-eq0.false) in
    rw (more, some) (subst (λ n. IfOk c.tell-else-slots-eq0.result (λ s. s ≡ c.args.sheet
    ++ headline_at c.args.y (codes "h") (from ++ decimal n ++ codes " " ++ noun_in lines ++ codes "," ++ codes " "
    ++ decimal (accents_in lines) ++ codes " " ++ accents_noun (accents_in lines)) ∷ []))
    c.slots_in-slots.ensures
    (subst (λ noun. IfOk c.tell-else-slots-eq0.result (λ s. s ≡ c.args.sheet
    ++ headline_at c.args.y (codes "h") (from ++ decimal c.slots_in-slots.result ++ codes " " ++ noun ++ codes ","
    ++ codes " " ++ decimal (accents_in lines) ++ codes " " ++ accents_noun (accents_in lines)) ∷ []))
    c.noun_in.ensures.value
    (subst (λ n. IfOk c.tell-else-slots-eq0.result (λ s. s ≡ c.args.sheet
    ++ headline_at c.args.y (codes "h") (from ++ decimal c.slots_in-slots.result ++ codes " " ++ c.noun_in.result.now
    ++ codes "," ++ codes " " ++ decimal n ++ codes " " ++ accents_noun n) ∷ []))
    c.accents_in-accents.ensures
    (subst (λ noun. IfOk c.tell-else-slots-eq0.result (λ s. s ≡ c.args.sheet
    ++ headline_at c.args.y (codes "h") (from ++ decimal c.slots_in-slots.result ++ codes " " ++ c.noun_in.result.now
    ++ codes "," ++ codes " " ++ decimal c.accents_in-accents.result ++ codes " " ++ noun) ∷ []))
    c.accents_noun.ensures.value c.tell-else-slots-eq0.ensures))))
