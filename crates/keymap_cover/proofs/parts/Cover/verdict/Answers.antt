use Rattle.std.proofs.Common.{rules}
use Rattle.keymap_cover.proofs.Common.{ap, ◌∙◌, ◌≡◌}
use Rattle.keymap_cover.specs.Covering.{verdict_of}
use Rattle.keymap_cover.proofs.Counting.{counts_are_of_verdicts}
use Rattle.keymap_cover.proofs.parts.Cover.verdict.Goals as goal

is-value : (c : goal.After-verdict) → c.verdict.result ≡ verdict_of c.args.map.now c.args.self.now c.args.sight
is-value c = c.verdict.ensures ∙ ap (λ f. f c.args.sight) (c.verdicts.ensures c.args.map.now)

pub returns-clause-told : goal.returns-clause-told
returns-clause-told c = search (rules, is-value, counts_are_of_verdicts)

pub returns-clause-value : goal.returns-clause-value
returns-clause-value c = is-value c
