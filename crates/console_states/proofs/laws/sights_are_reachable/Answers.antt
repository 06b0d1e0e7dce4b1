use Rattle.console_states.proofs.Seeing.{allowed_sights_are_reachable, looks_are_selected, sights_are_reachable}
use Rattle.console_states.proofs.Shown.{reachable_is_seen}
use Rattle.console_states.proofs.laws.sights_are_reachable.Goals as goal

pub returns-clause-selected : goal.returns-clause-selected
returns-clause-selected c = looks_are_selected

pub returns-clause-reachable : goal.returns-clause-reachable
returns-clause-reachable c = sights_are_reachable

pub returns-clause-allowed : goal.returns-clause-allowed
returns-clause-allowed c = allowed_sights_are_reachable

pub returns-clause-seen : goal.returns-clause-seen
returns-clause-seen c = reachable_is_seen
