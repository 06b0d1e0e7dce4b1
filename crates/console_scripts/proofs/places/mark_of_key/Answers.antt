use Rattle.std.proofs.Common.{rules}
use Rattle.console_scripts.proofs.Marking.{gains-mark, key-none, key-known, key-busy, key-idle}
use Rattle.console_scripts.proofs.places.mark_of_key.Goals as goal

pub returns-then-marks-at : goal.returns-then-marks-at
returns-then-marks-at c = search (rules, key-known)

pub returns-then-not-gives : goal.returns-then-not-gives
returns-then-not-gives c = search (rules, key-none)

pub returns-then-holds : goal.returns-then-holds
returns-then-holds c = search (rules, key-busy)

pub returns : goal.returns
returns c = search (rules, key-idle, gains-mark)
