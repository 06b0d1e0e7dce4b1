use Rattle.console_states.proofs.Deciding.{never_sticks_unless_reached, sticks_if_reached}
use Rattle.console_states.proofs.laws.modifiers_stick_where_paths_lead.Goals as goal

pub returns-clause-never : goal.returns-clause-never
returns-clause-never c = never_sticks_unless_reached

pub returns-clause-sticks : goal.returns-clause-sticks
returns-clause-sticks c = sticks_if_reached
