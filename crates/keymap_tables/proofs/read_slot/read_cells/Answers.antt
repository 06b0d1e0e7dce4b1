use Rattle.keymap_tables.proofs.Common.{arith, ◌≡◌, ◌<◌, ◌∙◌, ◌-◌, ◌*◌, ◌/◌, ◌%◌, ◌^◌, ◌==◌, ℕ, refl, subst, ap, sym}
use Rattle.keymap_tables.proofs.Common.{length, length-set, take, take_all, flat_map, mul-zero, mul_comm, slice_index}
use Rattle.keymap_tables.proofs.Common.{Bool, All-nil, All-same, IsCell, CellFits, HasNoFault, is_marked_at, cell_bytes}
use Rattle.keymap_tables.proofs.Common.{cell_fault, slot_fault, slot_end_fault, number_width, number_size}
use Rattle.keymap_tables.proofs.Lifting.{number-passes, number-fails}
use Rattle.keymap_tables.proofs.Marks.{marks-more}
use Rattle.keymap_tables.proofs.Numbers.{AreBytes, number-fits}
use Rattle.keymap_tables.proofs.Sizes.{row-inside, some-number}
use Rattle.keymap_tables.proofs.SlotImages.{All-more_set, cell-fits, bytes-more, marks-all}
use Rattle.keymap_tables.proofs.read_slot.read_cells.Goals as goal

pub loop-column-init : goal.loop-column-init
loop-column-init c = record {
  known = All-nil IsCell;
  fits = All-nil (CellFits c.args.layout);
  whole = refl;
  bytes = rw (mul-zero (number_size c.args.layout)) refl;
  marks = omega (arith, c.type_inv.bytes c.cells.result);
  sound = λ p below. absurd (omega (arith, below, mul-zero (number_size c.args.layout)));
}

pub loop-column-preserved : goal.loop-column-preserved
loop-column-preserved c =
    let layout = c.args.layout in
    let bytes = c.args.bytes.now in
    let i = c.loop-column.column in
    let small : AreBytes c.args.bytes.now = λ k. omega (arith, c.type_inv.bytes k) in
    let inside = row-inside (number_size layout) 8 i c.loop-column-test.true in
    let below : c.loop-column.column < length c.loop-column.cells = omega arith in
    let number = c.in-Ok.ensures.number ∙ c.read_number.ensures in
    let marked = ap (λ (at : ℕ). (slice_index bytes at / 2 ^ (7 - i)) % 2 == 1) c.cells.ensures in
    let clean =
    ap (λ (n : ℕ). cell_fault n (is_marked_at layout bytes i)) (sym c.read_number.ensures)
    ∙ ap (λ (t : Bool). cell_fault c.read_number.result t) (sym marked) ∙ c.in-Ok.ensures.fault in
    record {
      known = All-more_set IsCell _ _ _ below c.loop-column.invariant.known c.in-Ok.ensures.known;
      fits =
          All-more_set (CellFits layout) _ _ c.in-Ok.cell below c.loop-column.invariant.fits
          (cell-fits layout c.in-Ok.cell _ number (number-fits layout bytes (number_size layout * i) small));
      whole = length-set _ _ _ ∙ c.loop-column.invariant.whole;
      bytes =
          bytes-more layout bytes _ i _ small (omega (arith, inside, c.requires)) below c.loop-column.invariant.bytes
          number;
      marks = marks-more _ _ _ _ c.loop-column-test.true below c.loop-column.invariant.marks c.in-Ok.ensures.mark;
      sound =
          number-passes (number_width layout) (λ column n. cell_fault n (is_marked_at layout bytes column))
          (number_size layout) 8 (slot_end_fault layout bytes) bytes i c.loop-column-test.true
          c.loop-column.invariant.sound clean;
    }

pub returns-in-Err-clause-fault : goal.returns-in-Err-clause-fault
returns-in-Err-clause-fault c =
    let layout = c.args.layout in
    let bytes = c.args.bytes.now in
    let i = c.loop-column.column in
    let at = ap (λ (n : ℕ). n * i) c.number.ensures in
    let marked = ap (λ (p : ℕ). (slice_index bytes p / 2 ^ (7 - i)) % 2 == 1) c.cells.ensures in
    let fault =
    ap (λ (n : ℕ). cell_fault n (is_marked_at layout bytes i)) (sym c.read_number.ensures)
    ∙ ap (λ (t : Bool). cell_fault c.read_number.result t) (sym marked) ∙ c.in-Err.ensures.fault in (
      number-fails (number_width layout) (λ column n. cell_fault n (is_marked_at layout bytes column))
          (number_size layout) 8 (slot_end_fault layout bytes) bytes i _ (some-number layout) (omega arith) at
          c.loop-column.invariant.sound fault,
      omega (arith, at, row-inside (number_size layout) 8 i (omega arith), some-number layout),
    )

pub returns-clause-bytes : goal.returns-clause-bytes
returns-clause-bytes c =
    let end : 8 ≡ c.loop-column.column = omega arith in
    let size = mul_comm 8 (number_size c.args.layout) ∙ ap (λ (n : ℕ). number_size c.args.layout * n) end in
    ap (λ (n : ℕ). take n c.args.bytes.now) size ∙ sym c.loop-column.invariant.bytes
    ∙ ap (flat_map (cell_bytes c.args.layout)) (take_all c.loop-column.column _ (omega arith))

pub returns-clause-marks : goal.returns-clause-marks
returns-clause-marks c =
    ap (λ (at : ℕ). slice_index c.args.bytes.now at) (sym c.cells.ensures)
    ∙ marks-all _ _ _ (omega arith) c.loop-column.invariant.whole c.loop-column.invariant.marks

pub returns-clause-known : goal.returns-clause-known
returns-clause-known c =
    All-same IsCell _ _ (sym (take_all c.loop-column.column _ (omega arith))) c.loop-column.invariant.known

pub returns-clause-fits : goal.returns-clause-fits
returns-clause-fits c =
    All-same (CellFits c.args.layout) _ _ (sym (take_all c.loop-column.column _ (omega arith)))
    c.loop-column.invariant.fits

pub returns-clause-sound : goal.returns-clause-sound
returns-clause-sound c =
    let end : c.loop-column.column ≡ 8 = omega arith in
    subst (HasNoFault (slot_fault c.args.layout c.args.bytes.now))
    (ap (λ (n : ℕ). number_size c.args.layout * n) end ∙ mul_comm (number_size c.args.layout) 8)
    c.loop-column.invariant.sound
