use Rattle.console_states.proofs.Deciding.{safe_never_sticks_between, safe_never_forgets, safe_never_answers_sticks}
use Rattle.console_states.proofs.laws.safe_maps_never_stick_between.Goals as goal

pub returns-clause-lists : goal.returns-clause-lists
returns-clause-lists c = safe_never_sticks_between

pub returns-clause-states : goal.returns-clause-states
returns-clause-states c = safe_never_forgets

pub returns-clause-answers : goal.returns-clause-answers
returns-clause-answers c = safe_never_answers_sticks
