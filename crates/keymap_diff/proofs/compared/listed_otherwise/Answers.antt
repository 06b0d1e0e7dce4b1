use Rattle.std.proofs.Common.{ap, ◌∙◌, subst, sym, ◌≡◌}
use Rattle.keymap_core.specs.Accents.{AccentValue}
use Rattle.keymap_diff.proofs.Marks.{order_none, order_one}
use Rattle.keymap_diff.proofs.Same.{other_pairs, same_pairs}
use Rattle.keymap_diff.specs.Changes.{HaveSameResults, pairs_of}
use Rattle.keymap_diff.proofs.compared.listed_otherwise.Goals as goal

pub returns-then-eq : goal.returns-then-eq
returns-then-eq c =
    let v = c.args.versions.now in
    let i = c.args.accent in
    let first : c.pairs-old.result.now ≡ pairs_of v.old.now i =
    c.pairs-old.ensures.value ∙ ap (λ (a : AccentValue). a.pairs) c.accent_or_blank.ensures in
    let second : c.pairs-new.result.now ≡ pairs_of v.new.now i =
    c.pairs-new.ensures.value ∙ ap (λ (a : AccentValue). a.pairs) c.accent_or_blank-2.ensures in
    order_none v i c.requires
    (sym first
    ∙ same_pairs c.pairs-old.result.now c.pairs-new.result.now c.eq.result c.eq.ensures c.if-eq.true ∙ second)

pub returns-then-have_same_results : goal.returns-then-have_same_results
returns-then-have_same_results c =
    let v = c.args.versions.now in
    let i = c.args.accent in
    let first : c.pairs-old.result.now ≡ pairs_of v.old.now i =
    c.pairs-old.ensures.value ∙ ap (λ (a : AccentValue). a.pairs) c.accent_or_blank.ensures in
    let second : c.pairs-new.result.now ≡ pairs_of v.new.now i =
    c.pairs-new.ensures.value ∙ ap (λ (a : AccentValue). a.pairs) c.accent_or_blank-2.ensures in
    order_one v i c.requires
    (subst (λ ps. HaveSameResults ps (pairs_of v.new.now i)) first
    (subst (λ qs. HaveSameResults c.pairs-old.result.now qs) second
    (c.have_same_results.ensures.same c.if-have_same_results.true)))
    (λ same. other_pairs c.pairs-old.result.now c.pairs-new.result.now c.eq.result c.eq.ensures c.if-eq.false
    (first ∙ same ∙ sym second))
