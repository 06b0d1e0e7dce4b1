-- Which cells type a character, and which keys have none that does.
use Rattle.std.proofs.Common.{rules}
use Rattle.console_scripts.proofs.Common.{cases_Bool, suc, ◌≡◌, ◌+◌, ◌<◌, ◌==◌, ℕ, Bool, true, false, List, []}
use Rattle.console_scripts.proofs.Common.{◌∷◌, Option, Some, subst, arith, inl, inr}
use Rattle.console_scripts.proofs.Common.{length, get_or, none-some, same_Some, MapValue}
use Rattle.console_scripts.proofs.Common.{accent_at, cell_at, slot_of, Symbol, composed_of}
use Rattle.console_core.proofs.Shared.{column_of-lt}
use Rattle.keymap_core.specs.Accents.{AccentValue, first_result}
use Rattle.console_scripts.proofs.Taps.{same-dead}
use Rattle.console_scripts.specs.Inner.Courses.{IsMade, Lacks}
use Rattle.console_scripts.specs.declared.explored.Symbol.TheVariants as symbol

-- some pair has the result
first-has : (pairs : List (ℕ × ℕ)) (b c : ℕ) → first_result pairs b ≡ Some c
    → (n : ℕ) × (n < length pairs) × ((get_or pairs n (0, 0)).1 ≡ c)
first-has [] b c e = absurd (none-some c e)
first-has (q ∷ pairs) b c e = elim (cases_Bool (q.0 == b)) [
  | inl is ↦ (0, omega arith, same_Some q.1 c (rw is at e))
  | inr is ↦ let (n, lt, at) = first-has pairs b c (rw is at e) in (suc n, omega (arith, lt), at)
]

-- where no pair has the character, nor is it the accent's own, nothing makes it
pub no-maker : (m : MapValue) (i c : ℕ) (a : AccentValue) → accent_at m i ≡ Some a
    → ((n : ℕ) → n < length a.pairs → (get_or a.pairs n (0, 0)).1 ≡ c → ⊥) → (a.own ≡ c → ⊥)
    → (x : Symbol) → composed_of m i x ≡ Some c → ⊥
no-maker m i c a is pairs own (symbol.Character b) base =
    search (rules, cases_Bool, same_Some, first-has)
no-maker m i c a is pairs own (symbol.DeadKey j) base = search (rules, same-dead, same_Some)

-- ---- keys

-- no cell of the slot types the character
abbrev IsNotIn : MapValue → Option ℕ → ℕ → ℕ → Type 0
IsNotIn m accent c slot = (column : ℕ) → column < 8 → IsMade m accent c (cell_at m slot column) → ⊥

in-half : (m : MapValue) (accent : Option ℕ) (c k a b : ℕ) → a ≡ k → b ≡ k → IsNotIn m accent c a
    → IsNotIn m accent c (b + 128) → (upper : Bool) → IsNotIn m accent c (slot_of k upper)
in-half m accent c k a b e f low high false = subst (IsNotIn m accent c) e low
in-half m accent c k a b e f low high true = subst (λ j. IsNotIn m accent c (j + 128)) f high

pub lacks-made : (m : MapValue) (accent : Option ℕ) (c k a b : ℕ) → a ≡ k → b ≡ k → IsNotIn m accent c a
    → IsNotIn m accent c (b + 128) → Lacks m accent c k
lacks-made m accent c k a b e f low high y = in-half m accent c k a b e f low high y.upper _ (column_of-lt _ _ _)
