use Rattle.kmap_c.proofs.Common.{arith, ◌≡◌, ◌∙◌, ap, subst, ℕ, List, ◌++◌, length, flat_map, range_with_len, rules}
use Rattle.kmap_c.proofs.Common.{accent_or_blank, accent_line, lines-next, HasPut}
use Rattle.std.proofs.Common.{append-nil}
use Rattle.kmap_c.proofs.print.print_accents.Goals as goal

pub put-end-requires : goal.put-end-requires
put-end-requires c =
    omega (
      arith,
      c.requires,
      c.loop-index.invariant.few,
      c.as_slice.ensures.fits,
      c.loop-index-test.true,
      c.n_accs-index-end.ensures.few,
    )

pub loop-index-preserved : goal.loop-index-preserved
loop-index-preserved c = record {
  lines = λ m bytes old is same put. let line : ℕ → List ℕ = λ i. accent_line i (accent_or_blank m i) in
      let index = c.loop-index.index in
      let piece = c.as_slice.ensures.value ∙ c.accent_line-line.ensures
      ∙ ap (accent_line c.loop-index.index) (c.accent_at.ensures m (is, same)) in
      subst (λ front. HasPut front old c.put-end.result c.put-end.new.buffer)
      (lines-next line index bytes _ piece)
      (c.put-end.ensures.text _ _ (c.loop-index.invariant.lines m bytes old is same put));
  few = omega (arith, c.put-end.ensures.count, c.as_slice.ensures.fits, c.loop-index.invariant.few);
}

pub loop-index-init : goal.loop-index-init
loop-index-init c = search (rules, append-nil)

pub returns : goal.returns
returns c =
    λ m bytes old shows put. let all : c.loop-index.index ≡ length m.accents =
    omega (arith, c.loop-index-test.false, c.loop-index.auto.index-end, c.n_accs-index-end.ensures.count m shows) in
    subst (λ n. HasPut (bytes ++ flat_map (λ i. accent_line i (accent_or_blank m i)) (range_with_len 0 n)) old
    c.loop-index.end c.loop-index.text) all
    (c.loop-index.invariant.lines m bytes old shows.0 shows.1 put)
