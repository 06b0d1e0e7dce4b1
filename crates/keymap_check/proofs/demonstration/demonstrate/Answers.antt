use Rattle.keymap_check.proofs.Common.{refl, rules}
use Rattle.keymap_check.proofs.Given.{leaves_on, is_shown, is_none}
use Rattle.keymap_check.proofs.demonstration.demonstrate.Goals as goal

pub first_script-requires : goal.first_script-requires
first_script-requires c = c.of.ensures c.args.map.now refl

pub returns-clause-first : goal.returns-clause-first
returns-clause-first c = c.first_script.ensures

pub returns-clause-leaves_on : goal.returns-clause-leaves_on
returns-clause-leaves_on c = search (rules, leaves_on)

pub returns-clause-shown : goal.returns-clause-shown
returns-clause-shown c = search (rules, is_shown)

pub returns-clause-without_traps : goal.returns-clause-without_traps
returns-clause-without_traps c =
    is_none (λ s. s.items) c.args.map.now c.first_script.result
    c.first_script.ensures
