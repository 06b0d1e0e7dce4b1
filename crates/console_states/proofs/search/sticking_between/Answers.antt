use Rattle.console_states.proofs.search.sticking_between.Goals as goal

pub returns : goal.returns
returns c = c.decide.ensures
