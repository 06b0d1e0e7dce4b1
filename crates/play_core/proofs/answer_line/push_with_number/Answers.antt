use Rattle.play_core.proofs.Common.{◌≤◌, length, decimal, length-append, arith}
use Rattle.std.proofs.lemmas.Fmt.{length-decimal-le}
use Rattle.play_core.proofs.answer_line.push_with_number.Goals as goal

pub push_number-requires : goal.push_number-requires
push_number-requires c =
    let few : length (decimal c.args.number) ≤ 10 =
    length-decimal-le 10 c.args.number (omega arith) (omega arith) (omega arith) in
    rw (c.append.ensures.waiting, length-append) (omega arith)

pub returns-clause-size : goal.returns-clause-size
returns-clause-size c =
    let few : length (decimal c.args.number) ≤ 10 =
    length-decimal-le 10 c.args.number (omega arith) (omega arith) (omega arith) in
    rw (c.push_number.ensures.text, c.append.ensures.waiting, length-append, length-append) (omega arith)
