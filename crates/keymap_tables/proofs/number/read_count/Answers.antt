use Rattle.keymap_tables.proofs.Common.{arith, rules}
use Rattle.keymap_tables.proofs.Images.{count-pad, count-front}
use Rattle.keymap_tables.proofs.Lifting.{first-past}
use Rattle.keymap_tables.proofs.Numbers.{count-whole}
use Rattle.keymap_tables.proofs.Outcomes.{err_passed}
use Rattle.keymap_tables.proofs.number.read_count.Goals as goal

pub returns-in_err-check_zeros-clause-fault : goal.returns-in_err-check_zeros-clause-fault
returns-in_err-check_zeros-clause-fault c = search (rules, err_passed, first-past, count-pad, count-front)

pub returns-clause-image : goal.returns-clause-image
returns-clause-image c l whole =
    count-whole l c.args.bytes.now _ whole (λ i. omega (arith, c.type_inv.bytes i)) c.read_half-count.ensures
    (λ p past. c.in_ok-check_zeros.ensures.none p (omega arith))
