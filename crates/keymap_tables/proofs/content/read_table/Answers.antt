use Rattle.keymap_tables.proofs.Common.{arith, ◌-◌, ◌∙◌, ℕ, List, length, take, drop, sym, rules, ap, subst}
use Rattle.keymap_tables.proofs.Common.{take-append-drop, IsFirstFault, count_at, count_fault, used_fault, HasNoFault}
use Rattle.keymap_tables.proofs.Common.{count_size, TableFault}
use Rattle.keymap_tables.proofs.Images.{count-part, count-sound}
use Rattle.keymap_tables.proofs.Lifting.{split-fails, split-fails_behind}
use Rattle.keymap_tables.proofs.Numbers.{length-part}
use Rattle.keymap_tables.proofs.Outcomes.{err_passed}
use Rattle.keymap_tables.proofs.Rows.{cut-rest}
use Rattle.keymap_tables.proofs.content.read_table.Goals as goal

pub returns-in_err-count-clause-fault : goal.returns-in_err-count-clause-fault
returns-in_err-count-clause-fault g c = search (rules, length-part, split-fails, err_passed)

pub returns-in-Err-clause-fault : goal.returns-in-Err-clause-fault
returns-in-Err-clause-fault g c =
    let l = c.args.layout in
    let bytes = c.args.bytes.now in
    let most = g.R.Row.MOST in
    let size = g.R.Row.size c.args.layout in
    let head = ap (λ (n : ℕ). take n c.args.bytes.now) c.count-at.ensures in
    let long = ap length head ∙ length-part bytes 0 (count_size l) (omega (arith, c.requires.whole)) in
    let count =
    c.in_ok-count.ensures.value ∙ ap (λ (v : List ℕ). count_at v 0) head
    ∙ count-part bytes 0 (count_size l) (omega arith) in
    let front =
    subst (λ (v : List ℕ). HasNoFault (count_fault g.R.Row.MOST v) (count_size c.args.layout))
    (sym (c.in_ok-count.ensures.image l long) ∙ head)
    (count-sound l most c.in_ok-count.count (omega (arith, c.in_ok-count.ensures.few, c.MOST.ensures)) (omega arith)) in
    let fault =
    subst (λ (k : ℕ). IsFirstFault (used_fault (g.R.Row.faults c.args.layout) (g.R.Row.size c.args.layout) k
    (take (length c.args.bytes.now - c.count-at.result) (drop c.count-at.result c.args.bytes.now))) c.in-Err.fault)
    count c.in-Err.ensures.fault.0 in (
      split-fails_behind (count_size l) (count_fault most) (used_fault (g.R.Row.faults l) size (count_at bytes 0)) bytes
          _ _ c.in-Err.fault _ (cut-rest bytes (count_size l) _ c.count-at.ensures) c.count-at.ensures front fault
          c.after.ensures,
      omega (
        arith,
        c.in-Err.ensures.fault.1,
        ap (λ (f : TableFault). f.offset) c.after.ensures,
        c.count-at.ensures,
      ),
    )

pub returns-in-Ok-clause-taken : goal.returns-in-Ok-clause-taken
returns-in-Ok-clause-taken g c = search (rules, length-part, take-append-drop, cut-rest)
