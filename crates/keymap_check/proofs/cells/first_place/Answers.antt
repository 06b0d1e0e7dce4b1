use Rattle.keymap_check.proofs.Common.{◌≡◌, ℕ, true, false, subst, first_below, is_of_kind, cell_of, first_place}
use Rattle.std.proofs.Common.{rules, tests}
use Rattle.std.proofs.lemmas.Iterator.{first_from_Range}
use Rattle.keymap_core.proofs.Shared.{first_below-is}
use Rattle.keymap_check.proofs.cells.first_place.Goals as goal

pub returns-clause-value : goal.returns-clause-value
unfolding first_place
returns-clause-value g c = λ m shows is.
    let test = λ (place : ℕ). is_of_kind c.args.kind (cell_of m c.args.key place) in
    subst (λ n. c.find.result ≡ first_below test n) is
    (first_below-is test c.args.places c.find.result (first_from_Range _ _ _ c.find.result
    (λ k. test k ≡ true) (λ k. test k ≡ false) c.find.ensures.ran (λ x q k. search (rules, tests))
    (λ x q k. search (rules, tests))))
