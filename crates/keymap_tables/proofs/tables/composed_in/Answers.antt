use Rattle.keymap_tables.proofs.Common.{arith, ◌∙◌, ap, get_or, All-get_or, IsPair, char_fault, common_steps, rules}
use Rattle.keymap_tables.proofs.InPlace.{answer-of, below-of, later-of, past-of, result-of, result-none}
use Rattle.keymap_tables.proofs.ReadingLaws.{some_none}
use Rattle.keymap_tables.proofs.SlotImages.{char-sound}
use Rattle.keymap_tables.proofs.tables.composed_in.Goals as goal

pub returns-then-from-eq0 : goal.returns-then-from-eq0
returns-then-from-eq0 c = search (rules, past-of, result-none)

pub returns-in-Ok : goal.returns-in-Ok
returns-in-Ok c =
    λ a is same. answer-of c.args.layout c.args.bytes.now a is same c.loop-pair.pair _ c.loop-pair-test.true
    c.read_number-from.ensures c.args.base _ c.if-from-eq0.false c.if-from-base.true c.in-Ok.ensures.number
    (c.loop-pair.invariant a is same).1

pub returns-in-Err : goal.returns-in-Err
returns-in-Err c =
    λ a is same. let i = c.loop-pair.pair in
    let l = c.args.layout in
    let bytes = c.args.bytes.now in
    let room = c.loop-pair-test.true in
    let below = below-of l bytes a is same i _ room c.read_number-from.ensures c.if-from-eq0.false in
    absurd (some_none _ _ c.in-Err.ensures.fault.1
    (ap char_fault (result-of l bytes a i is room same)
    ∙ char-sound (get_or a.pairs i (0, 0)).1 (All-get_or IsPair a.pairs i (0, 0) below is.0.pairs).2))

pub loop-pair-preserved : goal.loop-pair-preserved
loop-pair-preserved c =
    λ a is same. later-of c.args.layout c.args.bytes.now a is same c.loop-pair.pair _ c.loop-pair-test.true
    c.read_number-from.ensures c.args.base c.if-from-eq0.false c.if-from-base.false (c.loop-pair.invariant a is same).1
