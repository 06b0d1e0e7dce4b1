use Rattle.keymap_consequences.proofs.Common.{◌≡◌, ◌<◌, ◌∙◌, arith, refl, subst}
use Rattle.std.proofs.lemmas.List.{length-set}
use Rattle.keymap_consequences.proofs.Holders.{quiet-set}
use Rattle.keymap_consequences.specs.Inner.Keys.{BearsNothing}
use Rattle.keymap_consequences.proofs.bearing.Keys.of.Goals as goal

pub loop-code-preserved : goal.loop-code-preserved
loop-code-preserved c =
    let keys = c.loop-code.keys in
    record {
      quiet =
          quiet-set (BearsNothing c.args.map.now) keys c.loop-code.code c.from.result c.may_bear.result c.from.ensures
          (omega (arith, c.loop-code-test.true, c.loop-code.invariant.size)) c.loop-code.invariant.quiet
          (λ none. subst (BearsNothing c.args.map.now) c.key_with.ensures (c.may_bear.ensures none));
      size = length-set keys c.from.result c.may_bear.result ∙ c.loop-code.invariant.size;
    }

pub returns : goal.returns
returns c = record {
  map = refl;
  live = c.is_upper_live.ensures;
  quiet = λ k lt. c.loop-code.invariant.quiet k (omega (arith, lt, c.loop-code-test.false));
  size = c.loop-code.invariant.size;
}
