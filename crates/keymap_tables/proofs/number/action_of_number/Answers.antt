use Rattle.keymap_tables.proofs.Common.{arith, nat_tests, ◌≡◌, ◌∙◌, ℕ, false, refl, ap, sym, None, Some, Option}
use Rattle.keymap_tables.proofs.Common.{MatchResult, BadAction}
use Rattle.std.specs.Option.{ok_or}
use Rattle.keymap_tables.specs.Faults.{action_fault}
use Rattle.keymap_core.specs.Actions.{action_of, within}
use Rattle.keymap_core.specs.declared.action.Action.{Action}
use Rattle.keymap_tables.proofs.number.action_of_number.Goals as goal

-- a number that isn't a combined action's is no fault exactly if it is an action's
found : (number : ℕ) (o : Option Action) → within 0x9b 0xa0 number ≡ false → o ≡ action_of number
    → MatchResult (ok_or o BadAction) (λ _. action_fault number ≡ None) (λ kind. action_fault number ≡ Some kind)
found number None free is = rw (free, sym is) refl
found number (Some a) free is = rw (free, sym is) refl

pub returns-in-Ok-clause-fault : goal.returns-in-Ok-clause-fault
returns-in-Ok-clause-fault c =
    let is = c.from_code.ensures ∙ ap action_of (c.in-Ok.code-is ∙ c.in-Ok.ensures.1) in
    let free : within 0x9b 0xa0 c.args.number ≡ false = grind (arith, nat_tests) in
    rw c.ok_or.ensures.value (found c.args.number c.from_code.result free is)
