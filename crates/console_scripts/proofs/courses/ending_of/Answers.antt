use Rattle.console_scripts.proofs.Common.{false, true, refl, subst, sym, ◌∙◌, ◌<◌, arith, length, true≢false}
use Rattle.std.proofs.lemmas.List.{length-set}
use Rattle.console_scripts.specs.Inner.Courses.{Lacks, MayEnd}
use Rattle.console_scripts.proofs.Lacking.{told-more, told-none}
use Rattle.console_scripts.proofs.courses.ending_of.Goals.{then-has_any, else-has_any}
use Rattle.console_scripts.proofs.courses.ending_of.Goals as goal

pub loop-code-preserved : goal.loop-code-preserved
loop-code-preserved c =
    let o = c.args.course.now in
    let may = MayEnd c.args.board o c.args.target in
    let lacks = Lacks c.args.map.now o.accent c.args.target.character in
    let n = c.loop-code.code in
    let keys = c.loop-code.keys in
    let ends = c.may_end-ends.result in
    let within : n < length keys = omega (arith, c.loop-code-test.true, c.loop-code.invariant.size) in
    record {
      taken =
          told-more may true keys n ends within
          (λ t. subst may c.key_with.ensures (c.may_end-ends.ensures.may t))
          c.loop-code.invariant.taken;
      other =
          told-more (λ k. may k → lacks k) false keys n ends within
          (λ t. subst (λ k. may k → lacks k) c.key_with.ensures (c.may_end-ends.ensures.other t))
          c.loop-code.invariant.other;
      none = elim c.if-has_any.branch [
        | then-has_any w ↦ λ t. absurd (true≢false (sym w.if-has_any.true ∙ (sym w.has_any-is ∙ t)))
        | else-has_any w ↦ λ t.
            told-none keys n ends within (sym w.has_any-is ∙ t)
            (c.loop-code.invariant.none w.if-has_any.false)
      ];
      size = length-set keys n ends ∙ c.loop-code.invariant.size;
    }

pub returns-then-has_any-2 : goal.returns-then-has_any-2
returns-then-has_any-2 c = record {
  same = refl;
  types = refl;
  taken = λ k lt. c.loop-code.invariant.taken k (omega (arith, lt, c.loop-code-test.false));
  other = λ k lt. c.loop-code.invariant.other k (omega (arith, lt, c.loop-code-test.false));
}

pub returns-else-has_any-2 : goal.returns-else-has_any-2
returns-else-has_any-2 c =
    λ k lt.
    let below : k < c.loop-code.code = omega (arith, lt, c.loop-code-test.false) in
    c.loop-code.invariant.other k below (c.loop-code.invariant.none c.if-has_any-2.false k below)
