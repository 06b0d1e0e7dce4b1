use Rattle.keymap_lint.proofs.Common.{◌≡◌, length, true, false, rules, tests}
use Rattle.std.proofs.lemmas.Iterator.{first_from_Range}
use Rattle.keymap_core.proofs.Shared.{first_below-is}
use Rattle.keymap_lint.specs.Directives.{is_dashes}
use Rattle.keymap_lint.proofs.directives.first_dashes.Goals as goal

pub returns-clause-value : goal.returns-clause-value
returns-clause-value c =
    first_below-is (is_dashes c.args.bytes.now) (length c.args.bytes.now) c.find.result
    (first_from_Range _ _ _ c.find.result (λ k. is_dashes c.args.bytes.now k ≡ true)
    (λ k. is_dashes c.args.bytes.now k ≡ false) c.find.ensures.ran (λ x q k. search (rules, tests))
    (λ x q k. search (rules, tests)))
