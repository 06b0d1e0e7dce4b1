use Rattle.play_core.proofs.Common.{length-append, rules}
use Rattle.play_core.proofs.Digits.{last_digit, one_more_digit, more_digits, digits_of_one}
use Rattle.play_core.proofs.number.+push_large_number.Goals.{then-number-gt9, else-number-gt9}
use Rattle.play_core.proofs.number.+push_large_number.Goals as goal

pub push_large_number-requires : goal.push_large_number-requires
push_large_number-requires t c = search (rules, more_digits)

pub append-requires : goal.append-requires
append-requires t c = search (rules, then-number-gt9, more_digits, length-append, else-number-gt9, digits_of_one)

pub returns-clause-text : goal.returns-clause-text
returns-clause-text t c = search (rules, then-number-gt9, one_more_digit, else-number-gt9, last_digit)
