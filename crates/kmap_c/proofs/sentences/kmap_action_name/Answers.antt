use Rattle.kmap_c.proofs.Common.{rules}
use Rattle.std.proofs.lemmas.Option.{same_Some}
use Rattle.keymap_core.proofs.Shared.{action-has_code, code-read}
use Rattle.kmap_c.proofs.sentences.kmap_action_name.Goals as goal

pub returns-in-Some-clause-said : goal.returns-in-Some-clause-said
returns-in-Some-clause-said c = search (rules, same_Some, code-read)

pub returns-in-Some-clause-no_action : goal.returns-in-Some-clause-no_action
returns-in-Some-clause-no_action c = search (rules, action-has_code)
