use Rattle.std.proofs.Common.{◌≡◌, take, ap, arith, rules}
use Rattle.std.proofs.lemmas.List.Sums.{suffix_len-take_no}
use Rattle.std.specs.List.{suffix_len}
use Rattle.keyboard.specs.Filled.{is_filler, unfilled}
use Rattle.keyboard.proofs.keys.unfilled.Goals.{then-loop-end-test+else-text-end, else-loop-end-test}
use Rattle.keyboard.proofs.keys.unfilled.Goals as goal

pub returns : goal.returns
unfolding unfilled
returns c =
    let text = c.args.text.now in
    let end = c.loop-end.end in
    let fills = is_filler c.args.filler in
    let none : suffix_len fills (take end text) ≡ 0 = elim c.loop-end-test.branch [
      | then-loop-end-test+else-text-end w ↦
          suffix_len-take_no fills text end 0 (omega arith) c.loop-end.invariant.within (search rules)
      | else-loop-end-test w ↦
          let z : end ≡ 0 = omega arith in ap (λ n. suffix_len fills (take n text)) z
    ] in
    ap (λ n. take n text) (omega (arith, c.loop-end.invariant.same, none))
