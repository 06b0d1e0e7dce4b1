use Rattle.play_core.proofs.Common.{rules}
use Rattle.play_core.proofs.Digits.{last_digit, both_digits, all_three_digits, digits_of_one, has_two, has_three}
use Rattle.play_core.proofs.number.push_number.Goals as goal

pub append-requires : goal.append-requires
append-requires c = search (rules, digits_of_one)

pub append-requires-then-number-lt100 : goal.append-requires-then-number-lt100
append-requires-then-number-lt100 c = search (rules, has_two)

pub append-requires-then-number-lt1000 : goal.append-requires-then-number-lt1000
append-requires-then-number-lt1000 c = search (rules, has_three)

pub returns-then-number-lt10-clause-text : goal.returns-then-number-lt10-clause-text
returns-then-number-lt10-clause-text c = search (rules, last_digit)

pub returns-then-number-lt100-clause-text : goal.returns-then-number-lt100-clause-text
returns-then-number-lt100-clause-text c = search (rules, both_digits)

pub returns-then-number-lt1000-clause-text : goal.returns-then-number-lt1000-clause-text
returns-then-number-lt1000-clause-text c = search (rules, all_three_digits)
