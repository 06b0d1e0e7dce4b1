use Rattle.keymap_check.proofs.Common.{not-true, rules}
use Rattle.keymap_check.proofs.Places.{none-holding}
use Rattle.keymap_check.proofs.survey.Survey.first_place.Goals as goal

pub returns-then-not-self-key-clause-value : goal.returns-then-not-self-key-clause-value
returns-then-not-self-key-clause-value g c = λ m shows is. search (rules, none-holding, not-true)
