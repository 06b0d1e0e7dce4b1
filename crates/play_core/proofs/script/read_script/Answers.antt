use Rattle.play_core.proofs.Common.{◌+◌, ◌-◌, take, refl, ap, arith, Some, None, Ok, Err, rules}
use Rattle.play_core.proofs.Common.{err_from_is_err_and, lines_of, words_of, Form, Key}
use Rattle.play_core.proofs.Sending.{reading_is}
use Rattle.play_core.proofs.ScriptLines.{lines_more, blank_more, event_more, fault_at, out_at, no_part, parts_left}
use Rattle.play_core.proofs.ScriptLines.{read-on, read-few, split-next}
use Rattle.play_core.proofs.script.read_script.Goals as goal

pub overflow_add-number : goal.overflow_add-number
overflow_add-number c =
    let read =
    read-on c.args.script.now _ _ c.loop-rest.number c.len-before.result c.len.result c.loop-rest.events.items
    c.read_plain_lines.new.events.items _ c.loop-rest.invariant.0 c.loop-rest.invariant.1 (ap parts_left c.in-Some.is)
    (c.in_ok-text.ensures.ok c.args.script.now c.loop-rest.number) (omega arith) (omega arith) in
    omega (arith, read-few _ _ _ _ read)

pub overflow_add-number-in-Some : goal.overflow_add-number-in-Some
overflow_add-number-in-Some c =
    let read =
    read-on c.args.script.now _ _ c.loop-rest.number c.len-before.result c.len.result c.loop-rest.events.items
    c.read_plain_lines.new.events.items _ c.loop-rest.invariant.0 c.loop-rest.invariant.1 (ap parts_left c.in-Some.is)
    (c.in_ok-text.ensures.ok c.args.script.now c.loop-rest.number) (omega arith) (omega arith) in
    omega (arith, read-few _ _ _ _ read)

pub returns-in-Err-Form-clause-err : goal.returns-in-Err-Form-clause-err
returns-in-Err-Form-clause-err c =
    let read =
    read-on c.args.script.now _ _ c.loop-rest.number c.len-before.result c.len.result c.loop-rest.events.items
    c.read_plain_lines.new.events.items _ c.loop-rest.invariant.0 c.loop-rest.invariant.1 (ap parts_left c.in-Some.is)
    (c.in_ok-text.ensures.ok c.args.script.now c.loop-rest.number) (omega arith) (omega arith) in
    let next = split-next c.args.script.now _ _ _ _ _ read c.split_line.ensures.parts in
    fault_at c.args.script.now _ _ _ _ next.0 read.events (
      refl,
      reading_is (words_of c.split_line.result.0.now) (Err Form)
          (rw c.in-Err-Form.field-0-is at c.in-Err-Form.ensures),
    )

pub returns-in-Err-Key-clause-err : goal.returns-in-Err-Key-clause-err
returns-in-Err-Key-clause-err c =
    let read =
    read-on c.args.script.now _ _ c.loop-rest.number c.len-before.result c.len.result c.loop-rest.events.items
    c.read_plain_lines.new.events.items _ c.loop-rest.invariant.0 c.loop-rest.invariant.1 (ap parts_left c.in-Some.is)
    (c.in_ok-text.ensures.ok c.args.script.now c.loop-rest.number) (omega arith) (omega arith) in
    let next = split-next c.args.script.now _ _ _ _ _ read c.split_line.ensures.parts in
    fault_at c.args.script.now _ _ _ _ next.0 read.events (
      refl,
      reading_is (words_of c.split_line.result.0.now) (Err Key)
          (rw c.in-Err-Key.field-0-is at c.in-Err-Key.ensures),
    )

pub returns-in_err-push-in-Ok-Some-clause-err : goal.returns-in_err-push-in-Ok-Some-clause-err
returns-in_err-push-in-Ok-Some-clause-err c =
    let read =
    read-on c.args.script.now _ _ c.loop-rest.number c.len-before.result c.len.result c.loop-rest.events.items
    c.read_plain_lines.new.events.items _ c.loop-rest.invariant.0 c.loop-rest.invariant.1 (ap parts_left c.in-Some.is)
    (c.in_ok-text.ensures.ok c.args.script.now c.loop-rest.number) (omega arith) (omega arith) in
    let next = split-next c.args.script.now _ _ _ _ _ read c.split_line.ensures.parts in
    let sent =
    reading_is (words_of c.split_line.result.0.now) (Ok (Some c.in-Ok-Some.field-0-0))
    (rw c.in-Ok-Some.field-0-is at c.in-Ok-Some.ensures) in
    let p =
    err_from_is_err_and c.from_residual-in_err-push-in-Ok-Some.result
    c.from_residual-in_err-push-in-Ok-Some.ensures.1 in
    rw (p.1, p.2) (out_at c.args.script.now _ _ _ _ next.0 read.events sent)

pub loop-rest-preserved-in-Ok-None : goal.loop-rest-preserved-in-Ok-None
loop-rest-preserved-in-Ok-None c =
    let read =
    read-on c.args.script.now _ _ c.loop-rest.number c.len-before.result c.len.result c.loop-rest.events.items
    c.read_plain_lines.new.events.items _ c.loop-rest.invariant.0 c.loop-rest.invariant.1 (ap parts_left c.in-Some.is)
    (c.in_ok-text.ensures.ok c.args.script.now c.loop-rest.number) (omega arith) (omega arith) in
    let next = split-next c.args.script.now _ _ _ _ _ read c.split_line.ensures.parts in (
      rw (lines_more next.0)
          (blank_more (take (c.loop-rest.number + (c.len.result - c.len-before.result)) (lines_of c.args.script.now)) _
          c.read_plain_lines.new.events.items read.events
          (reading_is (words_of c.split_line.result.0.now) (Ok None)
          (rw c.in-Ok-None.field-0-is at c.in-Ok-None.ensures))),
      next.1,
    )

pub loop-rest-preserved : goal.loop-rest-preserved
loop-rest-preserved c =
    let read =
    read-on c.args.script.now _ _ c.loop-rest.number c.len-before.result c.len.result c.loop-rest.events.items
    c.read_plain_lines.new.events.items _ c.loop-rest.invariant.0 c.loop-rest.invariant.1 (ap parts_left c.in-Some.is)
    (c.in_ok-text.ensures.ok c.args.script.now c.loop-rest.number) (omega arith) (omega arith) in
    let next = split-next c.args.script.now _ _ _ _ _ read c.split_line.ensures.parts in
    let sent =
    reading_is (words_of c.split_line.result.0.now) (Ok (Some c.in-Ok-Some.field-0-0))
    (rw c.in-Ok-Some.field-0-is at c.in-Ok-Some.ensures) in (
      rw (lines_more next.0, c.in_ok-push-in-Ok-Some.ensures.items)
          (event_more (take (c.loop-rest.number + (c.len.result - c.len-before.result)) (lines_of c.args.script.now)) _
          c.read_plain_lines.new.events.items c.in-Ok-Some.field-0-0 read.events sent),
      next.1,
    )

pub returns-clause-ok : goal.returns-clause-ok
returns-clause-ok c = search (rules, no_part, parts_left)
