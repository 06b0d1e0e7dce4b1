use Rattle.std.proofs.Common.{ap, subst, sym, ◌∙◌, ◌≡◌}
use Rattle.keyboard_cover.specs.Covering.{IsVerdict, verdict_of}
use Rattle.keyboard_cover.proofs.cover.KeyboardCover.verdict.Goals as goal

is-value : (c : goal.After-verdict) → c.verdict.result ≡ verdict_of c.args.self.now c.args.sight
is-value c = c.verdict.ensures ∙ ap (λ f. f c.args.sight) (c.verdicts.ensures c.args.map.now)

pub returns-clause-told : goal.returns-clause-told
returns-clause-told c =
    λ p covers.
    subst (λ v. IsVerdict p c.args.map.now c.args.self.now c.args.sight v) (sym (is-value c))
    (c.verdicts_are_so.ensures p c.args.map.now c.args.self.now covers c.args.sight)

pub returns-clause-value : goal.returns-clause-value
returns-clause-value c = is-value c
