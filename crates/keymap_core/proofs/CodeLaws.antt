-- The code of each action is that action's alone.
use Rattle.keymap_core.proofs.Common.{◌↔◌, ◌∙◌, ◌≡◌, ℕ, ◌-◌, ◌≤◌, ◌==◌, List, [], ◌∷◌, Bool, true, false, refl, rules}
use Rattle.keymap_core.proofs.Common.{arith, sym, ap, subst, inl, inr, map, ◌||◌, Some, None, Option, cond, find}
use Rattle.keymap_core.proofs.Common.{list_all, range_with_len, and_parts, cases_lt, eqb-true, none-some, same_Some}
use Rattle.keymap_core.proofs.Common.{nat_tests, common_steps, IsAction, action_of, plain_actions, Action}
use Rattle.std.proofs.Common.{nat_lt, nat_le}
use Rattle.std.specs.Prelude.{is_none}
use Rattle.std.proofs.lemmas.Bool.{leb-true}
use Rattle.keymap_core.proofs.Lists.{along}
use Rattle.keymap_core.specs.Actions.{IsCodeOfNoAction, code_of, within}
use Rattle.keymap_core.specs.declared.action.Action.TheVariants as a
use Rattle.keymap_core.specs.declared.action.Modifier.TheVariants as m
use Rattle.keymap_core.specs.declared.action.Lock.TheVariants as l

-- the code of a known action, read again, gives the action
pub code-read : (action : Action) → IsAction action → action_of (code_of action) ≡ Some action
code-read (a.Screen k) known = grind (arith, nat_tests, common_steps)
code-read (a.Function k) known = grind (arith, nat_tests, common_steps)
code-read (a.DeadKey k) known = grind (arith, nat_tests, common_steps)
code-read (a.Mod m.LeftShift) known = refl
code-read (a.Lock l.Caps) known = refl
code-read _ known = refl

-- an action without a number
abbrev is_plain : Action → Bool
is_plain (a.Screen k) = false
is_plain (a.Function k) = false
is_plain (a.DeadKey k) = false
is_plain _ = true

-- each plain action is known
plain-known : (action : Action) → is_plain action ≡ true → IsAction action
plain-known (a.Screen k) h = absurd (cc)
plain-known (a.Function k) h = absurd (cc)
plain-known (a.DeadKey k) h = absurd (cc)
plain-known _ h = tt

-- the code is the action's
abbrev HasCode : ℕ → Action → Type 0
HasCode c action = (code_of action ≡ c) × IsAction action

-- a step of the search by code
step-has_code : (c : ℕ) (x action : Action) (rest : Option Action) (b : Bool) → code_of x == c ≡ b → IsAction x
    → (rest ≡ Some action → HasCode c action) → cond b (Some x) rest ≡ Some action → HasCode c action
step-has_code c x action rest true test known later h =
    subst (λ y. HasCode c y) (same_Some x action h) (eqb-true (code_of x) c test, known)
step-has_code c x action rest false test known later h = later h

-- what the search by code finds has the code
find-has_code : (c : ℕ) (xs : List Action) (action : Action) → list_all is_plain xs ≡ true
    → find (λ x. code_of x == c) xs ≡ Some action → HasCode c action
find-has_code c [] action plain h = absurd (none-some action h)
find-has_code c (x ∷ xs) action plain h =
    let parts = and_parts (is_plain x) (list_all is_plain xs) plain in
    step-has_code c x action (find (λ y. code_of y == c) xs) (code_of x == c) refl (plain-known x parts.0)
    (find-has_code c xs action parts.1) h

-- a range of codes of actions with a number
range-has_code : (c low high : ℕ) (numbered action : Action) (rest : Option Action) (b : Bool) → within low high c ≡ b
    → (low ≤ c → c ≤ high → HasCode c numbered) → (rest ≡ Some action → HasCode c action)
    → cond b (Some numbered) rest ≡ Some action → HasCode c action
range-has_code c low high numbered action rest true test inside later h =
    search (rules, and_parts, nat_le, same_Some, leb-true)
range-has_code c low high numbered action rest false test inside later h = later h

-- the action of a code has the code
pub action-has_code : (c : ℕ) (action : Action) → action_of c ≡ Some action → HasCode c action
action-has_code c action =
    range-has_code c 0x0b 0x1a (a.Screen (c - 0x0a)) action _ _ refl
    (λ low high. (omega arith, (omega arith, omega arith)))
    (range-has_code c 0x1b 0x7a (a.Function (c - 0x1a)) action _ _ refl
    (λ low high. (omega arith, (omega arith, omega arith)))
    (range-has_code c 0x89 0x97 (a.DeadKey (c - 0x89)) action _ _ refl (λ low high. (omega arith, omega arith))
    (find-has_code c plain_actions action refl)))

-- a code past those of the table is that of no action
beyond-find : (c : ℕ) (xs : List Action) → list_all (λ x. nat_lt (code_of x) 0xa4) xs ≡ true → 0xa4 ≤ c
    → find (λ x. code_of x == c) xs ≡ None
beyond-find c [] below h = refl
beyond-find c (x ∷ xs) below h =
    let parts = and_parts (nat_lt (code_of x) 0xa4) (list_all (λ y. nat_lt (code_of y) 0xa4) xs) below in
    rw (differ (code_of x) c parts.0 h) (beyond-find c xs parts.1 h)
  where
    differ : (a c : ℕ) → nat_lt a 0xa4 ≡ true → 0xa4 ≤ c → a == c ≡ false
    differ a c low high = grind (arith, nat_tests)

-- codes from 0xa4 on have no action
beyond-none : (c : ℕ) → 0xa4 ≤ c → action_of c ≡ None
beyond-none c h = search (rules, beyond-find, nat_tests)

-- the test for codes of no action
abbrev is_code_of_no_action : ℕ → Bool
is_code_of_no_action c = (c == 0x01) || within 0x7b 0x7f c || within 0x9b 0xa0 c || nat_le 0xa4 c

-- a code that the test takes for unused is unused
unused-from_test : (c : ℕ) → is_code_of_no_action c ≡ true → IsCodeOfNoAction c
unused-from_test c h = grind (arith, nat_tests)

-- an unused code passes the test
unused-as_test : (c : ℕ) → IsCodeOfNoAction c → is_code_of_no_action c ≡ true
unused-as_test c h = grind (arith, nat_tests)

-- computed over the table
all-codes : map (λ c. is_none (action_of c)) (range_with_len 0 0xa4) ≡ map is_code_of_no_action (range_with_len 0 0xa4)
all-codes = refl

-- what the test says of each code
same-as_test : (c : ℕ) → is_none (action_of c) ≡ is_code_of_no_action c
same-as_test c = elim (cases_lt c 0xa4) [
  | inl below ↦
      along (λ c. is_none (action_of c)) is_code_of_no_action 0 0xa4 all-codes c (omega arith) (omega (arith, below))
  | inr above ↦ ap is_none (beyond-none c above) ∙ sym (unused-as_test c (inr (inr (inr above))))
]

is_none-None : (o : Option Action) → is_none o ≡ true → o ≡ None
is_none-None None h = refl
is_none-None (Some x) h = absurd (cc)

-- a code has no action exactly if it is unused
pub unused-codes : (c : ℕ) → (action_of c ≡ None) ↔ IsCodeOfNoAction c
unused-codes c = (
  λ e. unused-from_test c (sym (same-as_test c) ∙ ap is_none e),
  λ u. is_none-None (action_of c) (same-as_test c ∙ unused-as_test c u),
)
