use Rattle.std.proofs.Common.{rules}
use Rattle.console_scripts.proofs.Tapping.{gains-character, gains-dead}
use Rattle.console_scripts.proofs.typed.Tapped.add.Goals as goal

pub returns-in_ok-insert-in-Character : goal.returns-in_ok-insert-in-Character
returns-in_ok-insert-in-Character c = search (rules, gains-character)

pub returns-in_ok-insert-in-DeadKey : goal.returns-in_ok-insert-in-DeadKey
returns-in_ok-insert-in-DeadKey c = search (rules, gains-dead)
