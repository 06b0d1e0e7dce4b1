use Rattle.console_core.proofs.kept.step_kept.Goals as goal

pub returns-clause-answer : goal.returns-clause-answer
returns-clause-answer g c = c.deliver.ensures.answer

pub returns-clause-next : goal.returns-clause-next
returns-clause-next g c = c.deliver.ensures.next
