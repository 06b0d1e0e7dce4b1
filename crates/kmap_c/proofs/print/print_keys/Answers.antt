use Rattle.kmap_c.proofs.Common.{arith, ◌∙◌, ap, subst, ℕ, List, [], rules}
use Rattle.kmap_c.proofs.Common.{entry_at, key_line, lines-next, HasPut}
use Rattle.kmap_c.proofs.print.print_keys.Goals as goal

pub put-end-requires : goal.put-end-requires
put-end-requires c =
    omega (
      arith,
      c.loop-slot.invariant.few,
      c.as_slice.ensures.fits,
      c.loop-slot-test.true,
      c.n_keys-slot-end.ensures.few,
    )

pub loop-slot-preserved : goal.loop-slot-preserved
loop-slot-preserved c = record {
  lines = λ m is same. let line : ℕ → List ℕ = λ s. key_line s (entry_at m s) in
      let slot = c.loop-slot.slot in
      let piece = c.as_slice.ensures.value ∙ c.key_line-line.ensures
      ∙ ap (key_line c.loop-slot.slot) (c.entry_at.ensures m (is, same)) in
      subst (λ bytes. HasPut bytes c.args.text.now c.put-end.result c.put-end.new.buffer)
      (lines-next line slot [] _ piece)
      (c.put-end.ensures.text _ _ (c.loop-slot.invariant.lines m is same));
  few = omega (arith, c.put-end.ensures.count, c.as_slice.ensures.fits, c.loop-slot.invariant.few);
}

pub loop-slot-init : goal.loop-slot-init
loop-slot-init c = search rules

pub returns-clause-text : goal.returns-clause-text
returns-clause-text c = search rules

pub returns-clause-few : goal.returns-clause-few
returns-clause-few c =
    omega (
      arith,
      c.loop-slot.invariant.few,
      c.loop-slot-test.false,
      c.loop-slot.auto.slot-end,
      c.n_keys-slot-end.ensures.few,
    )
