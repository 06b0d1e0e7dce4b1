use Rattle.keymap_text.proofs.grammar.Grammar.accept.Goals as goal

pub returns-in-Lock-clause-steps : goal.returns-in-Lock-clause-steps
returns-in-Lock-clause-steps g c = rw c.in-Lock.is c.lock.ensures.steps

pub returns-in-AfterAccent-clause-steps : goal.returns-in-AfterAccent-clause-steps
returns-in-AfterAccent-clause-steps g c = rw c.in-AfterAccent.is c.after_accent.ensures.steps
