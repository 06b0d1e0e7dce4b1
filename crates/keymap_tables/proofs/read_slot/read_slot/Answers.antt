use Rattle.keymap_tables.proofs.Common.{arith, ℕ, ◌+◌, ◌∙◌, ap, slice_index, rules, nat_tests, slot_fault, slot_size}
use Rattle.keymap_tables.proofs.Common.{BadPad}
use Rattle.keymap_tables.proofs.Lifting.{first-past}
use Rattle.keymap_tables.proofs.Outcomes.{err_passed}
use Rattle.keymap_tables.proofs.SlotImages.{slot-whole, slot-flag, slot-pad, slot-marks, slot-front, small-flag}
use Rattle.keymap_tables.proofs.read_slot.read_slot.Goals as goal

pub returns-in_default-clause-fault : goal.returns-in_default-clause-fault
returns-in_default-clause-fault c = search (rules, nat_tests, slot-flag, slot-marks)

pub returns-in_err-check_zeros-clause-fault : goal.returns-in_err-check_zeros-clause-fault
returns-in_err-check_zeros-clause-fault c =
    let layout = c.args.layout in
    let bytes = c.args.bytes.now in
    let flag = c.in-Some.ensures ∙ ap (λ (n : ℕ). slice_index bytes (n + 1)) c.cells-flag_at.ensures in
    let front = slot-front layout bytes c.in_ok-cells.ensures.sound (small-flag _ _ flag) in
    err_passed _ _ _ c.from_residual-in_err-check_zeros.ensures.1 (
      first-past BadPad (slot_fault layout bytes) bytes _ (slot_size layout) _
          (λ p past inside. slot-pad layout bytes p (omega (arith, past, c.cells-flag_at.ensures)))
          (λ p below. front p (omega (arith, below, c.cells-flag_at.ensures))) (omega arith)
          c.in_err-check_zeros.ensures.first,
      omega (arith, c.in_err-check_zeros.ensures.first.inside),
    )

pub returns-clause-image : goal.returns-clause-image
returns-clause-image c =
    let bytes = c.args.bytes.now in
    let flag = c.in-Some.ensures ∙ ap (λ (n : ℕ). slice_index bytes (n + 1)) c.cells-flag_at.ensures in
    slot-whole c.args.layout bytes (record { cells = c.in_ok-cells.cells; flag = c.in-Some.flag }) c.requires
    c.in_ok-cells.ensures.bytes c.in_ok-cells.ensures.marks flag
    (λ p past. c.in_ok-check_zeros.ensures.none p (omega (arith, past, c.cells-flag_at.ensures)))

pub returns-clause-known : goal.returns-clause-known
returns-clause-known c =
    (record { eight = c.in_ok-cells.ensures.eight; cells = c.in_ok-cells.ensures.known }, c.in_ok-cells.ensures.fits)
