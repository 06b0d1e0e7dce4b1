-- The name of each action is one word, which means that action.
use Rattle.keymap_text.proofs.Common.{cases_lt, ◌≡◌, ℕ, ◌≤◌, true, refl, arith, inl, inr, IsAction, name_of, Action}
use Rattle.keymap_text.proofs.Common.{Act, meaning, digits_of, named, along}
use Rattle.keymap_text.proofs.Characters.{is_one_word}
use Rattle.keymap_core.specs.declared.action.Action.TheVariants as a
use Rattle.keymap_core.specs.declared.action.Modifier.TheVariants as m
use Rattle.keymap_core.specs.declared.action.Lock.TheVariants as l

-- the name of each function key means it, by computation
function_meaning : (k : ℕ) → 1 ≤ k → k ≤ 96 → meaning (name_of (a.Function k)) ≡ Act (a.Function k)
unfolding meaning digits_of named
function_meaning k low high = elim (cases_lt k 49) [
  | inl h ↦ along (λ k. meaning (name_of (a.Function k))) (λ k. Act (a.Function k)) 1 48 refl k low (omega (arith, h))
  | inr h ↦ along (λ k. meaning (name_of (a.Function k))) (λ k. Act (a.Function k)) 49 48 refl k (omega (arith, h))
      (omega (arith, high))
]

-- the name of an action is one word, by computation
pub action_word : (action : Action) → IsAction action → is_one_word (name_of action) ≡ true
action_word action known = grind (arith, along)

-- the name of an action means that action
pub action_meaning : (action : Action) → IsAction action → meaning (name_of action) ≡ Act action
unfolding meaning digits_of named
action_meaning (a.Screen k) known =
    along (λ k. meaning (name_of (a.Screen k))) (λ k. Act (a.Screen k)) 1 16 refl k (omega arith) (omega arith)
action_meaning (a.Function k) known = function_meaning k (omega arith) (omega arith)
action_meaning (a.DeadKey k) known =
    along (λ k. meaning (name_of (a.DeadKey k))) (λ k. Act (a.DeadKey k)) 0 15 refl k (omega arith) (omega arith)
action_meaning (a.Mod m.LeftShift) known = refl
action_meaning (a.Lock l.Caps) known = refl
action_meaning _ known = refl
