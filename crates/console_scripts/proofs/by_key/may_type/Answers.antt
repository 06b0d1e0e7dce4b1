use Rattle.console_scripts.proofs.Common.{ap, arith, option_copied, sym, ◌∙◌, inl, inr, place_last, subst}
use Rattle.std.specs.Prelude.{Some}
use Rattle.console_scripts.specs.Inner.Courses.{Lacks}
use Rattle.console_scripts.proofs.KeyWays.{lacks-all}
use Rattle.console_scripts.proofs.by_key.may_type.Goals as goal

pub loop-index-preserved : goal.loop-index-preserved
loop-index-preserved c = record {
  below = omega (arith, c.in-Some.ensures.in_range);
  lacks = λ i lt. elim (place_last i c.loop-index.index lt) [
    | inl less ↦ c.loop-index.invariant.lacks i less
    | inr e ↦
        subst (λ j. Lacks c.args.map.now (Some j) c.args.character c.args.key) (sym e)
        (c.has_made.ensures c.if-has_made.false)
  ];
}

pub returns : goal.returns
returns c =
    λ no. lacks-all c.args.map.now c.args.character c.args.key c.loop-index.index
    (sym c.accent.ensures.value ∙ ap option_copied c.in_default.is) c.loop-index.invariant.lacks
    (c.has_made-2.ensures no)
