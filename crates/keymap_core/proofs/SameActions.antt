-- The test for the same action.
use Rattle.keymap_core.proofs.Common.{◌≡◌, true, refl, rules, Action, same_action}
use Rattle.std.specs.Bool.{Decides}

-- `==` decides whether two actions are the same
pub action-same : (a b : Action) → Decides (same_action a b) (a ≡ b)
action-same a b = search rules

-- where the test passes, the actions are the same
pub same_action-true : (a b : Action) → same_action a b ≡ true → a ≡ b
same_action-true a b e = (action-same a b).0 e

-- each action passes the test with itself
pub same_action-refl : (a : Action) → same_action a a ≡ true
same_action-refl a = (action-same a a).1 refl
