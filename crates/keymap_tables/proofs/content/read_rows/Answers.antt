use Rattle.keymap_tables.proofs.Common.{List, [], ◌∷◌, ◌++◌, ◌≡◌, ◌+◌, ◌*◌, ◌∙◌, ℕ, refl, sym, ap, subst, arith, rules}
use Rattle.keymap_tables.proofs.Common.{mul-zero, length_push, All-nil, All-push, IsFirstFault, used_fault, zero_fault}
use Rattle.keymap_tables.proofs.Common.{HasNoFault, NotEmpty, TableFault}
use Rattle.keymap_tables.proofs.Lifting.{row-passes, row-fails, row-past, first-past, upto}
use Rattle.keymap_tables.proofs.Numbers.{drop-zeros}
use Rattle.keymap_tables.proofs.Outcomes.{OnOk-map, IfErr-map}
use Rattle.keymap_tables.proofs.Rows.{cut-row, rows-read, rows-whole}
use Rattle.keymap_tables.proofs.Sizes.{row-inside}
use Rattle.keymap_tables.proofs.content.read_rows.Goals as goal

pub loop-index-init : goal.loop-index-init
loop-index-init g c =
    let none = mul-zero (g.R.Row.size c.args.layout) in
    record {
      rows = (([], refl, rw none refl, All-nil (g.R.Row.Is c.args.layout)), λ m start. start);
      sound = λ p below. absurd (omega (arith, below, none));
    }

pub loop-index-preserved : goal.loop-index-preserved
loop-index-preserved g c =
    let l = c.args.layout in
    let size = g.R.Row.size c.args.layout in
    let bytes = c.args.bytes.now in
    let i = c.loop-index.index in
    let x = c.in-Ok.row in
    let so_far = c.loop-index.invariant.rows in
    let here =
    sym (cut-row bytes (g.R.Row.size c.args.layout) i _ c.size-size.ensures) ∙ c.in-Ok.ensures.image in
    record {
      rows = (
        (
          so_far.0.0 ++ x ∷ [],
          length_push _ _ ∙ ap (λ (n : ℕ). n + 1) so_far.0.1,
          rows-read (g.R.Row.image l) size bytes so_far.0.0 i x so_far.0.2 here,
          All-push (g.R.Row.Is l) _ _ so_far.0.3 c.in-Ok.ensures.known,
        ),
        λ m start. c.define.ensures m so_far.0.0 so_far.0.1 (so_far.1 m start),
      );
      sound =
          row-passes (λ i. g.R.Row.faults l) size c.args.count (zero_fault NotEmpty bytes) bytes i (omega arith)
          c.loop-index.invariant.sound
          (subst (λ (v : List ℕ). HasNoFault (g.R.Row.faults c.args.layout v) (g.R.Row.size c.args.layout)) (sym here)
          (c.requires.rows.sound x c.in-Ok.ensures.known));
    }

pub returns-in-Err-clause-fault : goal.returns-in-Err-clause-fault
returns-in-Err-clause-fault g c =
    let l = c.args.layout in
    let size = g.R.Row.size c.args.layout in
    let bytes = c.args.bytes.now in
    let i = c.loop-index.index in
    let at = ap (λ (k : ℕ). k * i) c.size-size.ensures in
    let here = cut-row bytes (g.R.Row.size c.args.layout) i _ c.size-size.ensures in (
      row-fails (λ i. g.R.Row.faults l) size c.args.count (zero_fault NotEmpty bytes) bytes i _ c.in-Err.fault _
          (omega arith) at c.loop-index.invariant.sound
          (subst (λ (v : List ℕ). IsFirstFault (g.R.Row.faults c.args.layout v) c.in-Err.fault) here
          c.in-Err.ensures.fault.0)
          c.in-Err.ensures.fault.1 c.after.ensures,
      omega (
        arith,
        c.in-Err.ensures.fault.1,
        at,
        ap (λ (f : TableFault). f.offset) c.after.ensures,
        row-inside size g.R.Row.MOST i (omega (arith, c.requires.few)),
      ),
    )

pub returns-clause-taken : goal.returns-clause-taken
returns-clause-taken g c = search (rules, OnOk-map, rows-whole, drop-zeros)

pub returns-clause-fault : goal.returns-clause-fault
returns-clause-fault g c =
    let size = g.R.Row.size c.args.layout in
    let bytes = c.args.bytes.now in
    let whole = used_fault (g.R.Row.faults c.args.layout) size c.args.count bytes in
    let end : c.loop-index.index ≡ c.args.count = omega arith in
    let at = ap (λ (k : ℕ). k * c.args.count) c.size-size.ensures in
    let so_far = upto whole size c.loop-index.index c.args.count end c.loop-index.invariant.sound in
    IfErr-map c.check_zeros.result _ _ c.check_zeros.ensures.first (λ f first. (
      first-past NotEmpty whole bytes _ (g.R.Row.MOST * size) f
          (λ p past inside. row-past (λ i. g.R.Row.faults c.args.layout) size c.args.count (zero_fault NotEmpty bytes)
          bytes p c.requires.rows.some (omega (arith, past, at)))
          (λ p below. so_far p (omega (arith, below, at))) (omega (arith, c.requires.whole)) first,
      omega (arith, first.inside, c.requires.whole),
    ))
