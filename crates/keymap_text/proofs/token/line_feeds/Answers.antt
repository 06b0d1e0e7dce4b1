use Rattle.keymap_text.proofs.Common.{◌≡◌, ◌+◌, ◌-◌, ◌==◌, length, take, drop, ◌∙◌, ap, arith, count_by, length-drop}
use Rattle.keymap_text.proofs.Common.{count_by-le-length, length-take-le, rules}
use Rattle.keymap_text.proofs.Lines.{feeds_more, feeds_split}
use Rattle.keymap_text.proofs.Splitting.{to_end}
use Rattle.keymap_text.proofs.token.line_feeds.Goals as goal

pub loop-i-preserved : goal.loop-i-preserved
loop-i-preserved c =
    let l = c.loop-i in
    let b = c.args.bytes.now in
    let size : l.i + 192 - l.i ≡ 192 = omega arith in
    let more = feeds_more b l.i 192 in
    let taken : c.few_line_feeds.result ≡ count_by (λ c. c == 10) (take 192 (drop l.i b)) =
    c.few_line_feeds.ensures ∙ ap (λ k. count_by (λ c. c == 10) (take k (drop l.i b))) size in
    let few = count_by-le-length (λ c. c == 10) (take 192 (drop l.i b)) in
    let all : length (take 192 (drop l.i b)) ≡ 192 =
    length-take-le 192 (drop l.i b) (omega (arith, length-drop l.i b, c.loop-i-test.true)) in
    record {
      inside = omega arith;
      value = omega (arith, l.invariant.value, more, taken);
      bound = omega (arith, l.invariant.bound, taken, few, all);
    }

pub returns-clause-value : goal.returns-clause-value
returns-clause-value c = search (rules, to_end, feeds_split)

pub returns-clause-bound : goal.returns-clause-bound
returns-clause-bound c = search (rules, to_end, feeds_split, count_by-le-length)
