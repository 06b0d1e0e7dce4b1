use Rattle.keymap_lint.proofs.Common.{◌≡◌, true, false, rules, tests, has_base}
use Rattle.std.proofs.lemmas.Iterator.{first_from_Range}
use Rattle.keymap_core.proofs.Shared.{first_below-is}
use Rattle.keymap_lint.proofs.pair_again.before.Goals as goal

pub returns-clause-value : goal.returns-clause-value
returns-clause-value c =
    first_below-is (has_base c.args.pairs.now c.args.place) c.args.place c.find.result
    (first_from_Range _ _ _ c.find.result (λ k. has_base c.args.pairs.now c.args.place k ≡ true)
    (λ k. has_base c.args.pairs.now c.args.place k ≡ false) c.find.ensures.ran (λ x q k. search (rules, tests))
    (λ x q k. search (rules, tests)))
