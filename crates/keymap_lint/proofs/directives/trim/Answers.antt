use Rattle.keymap_lint.proofs.Common.{◌≡◌, take, sym, ◌∙◌, ap, arith, rules}
use Rattle.std.specs.List.{suffix_len}
use Rattle.std.proofs.lemmas.List.Sums.{suffix_len-take_no, suffix_len-take_yes}
use Rattle.keymap_text.specs.Lexical.{is_space}
use Rattle.keymap_lint.specs.Directives.{trimmed}
use Rattle.keymap_lint.proofs.directives.trim.Goals.{then-loop-end-test+else-is_space_byte, else-loop-end-test}
use Rattle.keymap_lint.proofs.directives.trim.Goals as goal

pub loop-end-preserved : goal.loop-end-preserved
loop-end-preserved c = search (rules, suffix_len-take_yes)

pub returns-clause-value : goal.returns-clause-value
unfolding trimmed
returns-clause-value c =
    let bytes = c.args.bytes.now in
    let end = c.loop-end.end in
    let none : suffix_len is_space (take end bytes) ≡ 0 = elim c.loop-end-test.branch [
      | then-loop-end-test+else-is_space_byte w ↦
          suffix_len-take_no is_space bytes end 0 (omega arith) c.loop-end.invariant.within
          (sym w.is_space_byte.ensures ∙ w.if-is_space_byte.false)
      | else-loop-end-test w ↦
          let z : end ≡ 0 = omega arith in ap (λ n. suffix_len is_space (take n bytes)) z
    ] in
    ap (λ n. take n bytes) (omega (arith, c.loop-end.invariant.same, none))
