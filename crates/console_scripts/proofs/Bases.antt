-- What can be tapped to type a character while an accent is pending: a base of its pairs, the blank or its dead key.
use Rattle.std.proofs.Common.{rules}
use Rattle.console_scripts.proofs.Common.{cases_Bool, suc, ◌≡◌, ℕ, true, List, [], ◌∷◌, Option, Some, None}
use Rattle.console_scripts.proofs.Common.{refl, ap, sym, ◌∙◌, arith, slice_get}
use Rattle.console_scripts.proofs.Common.{length, ◌<◌, ◌≤◌, inl, inr, ◌==◌, Contains, eqb-true, cases_lt, true≢false}
use Rattle.console_scripts.proofs.Common.{none-some, slice_get-get_or, slice_get_within, MapValue, accent_at}
use Rattle.console_scripts.proofs.Common.{Symbol, composed_of, usable}
use Rattle.keymap_core.specs.Accents.{AccentValue, first_result}
use Rattle.console_core.specs.Answers.{has_own}
use Rattle.console_scripts.proofs.Taps.{same-dead}
use Rattle.console_scripts.specs.declared.explored.Symbol.TheVariants as symbol

-- a pair has the base of a result
first-member : (pairs : List (ℕ × ℕ)) (b c : ℕ) → first_result pairs b ≡ Some c
    → (p : ℕ × ℕ) × Contains pairs p × (p.0 ≡ b)
first-member [] b c e = absurd (none-some c e)
first-member (q ∷ pairs) b c e = elim (cases_Bool (q.0 == b)) [
  | inl is ↦ (q, (0, omega arith, refl), eqb-true q.0 b is)
  | inr is ↦
      let (p, (n, lt, at), same) = first-member pairs b c (rw is at e) in (p, (suc n, omega (arith, lt), at), same)
]

-- what holds of the cell, which types the character while the accent is pending
abbrev pub Makes : MapValue → (Symbol → Type 0) → ℕ → ℕ → Symbol → Type 0
Makes m P i c x = (composed_of m i x ≡ Some c) × P x

-- where no base of a pair, nor the blank, nor the dead key is a base, nothing is
pub no-base : (m : MapValue) (P : Symbol → Type 0) (i c : ℕ) (a : AccentValue) → accent_at m i ≡ Some a
    → ((p : ℕ × ℕ) → Contains a.pairs p → Makes m P i c (symbol.Character p.0) → ⊥)
    → (Makes m P i c (symbol.Character 32) → ⊥) → (Makes m P i c (symbol.DeadKey i) → ⊥)
    → (x : Symbol) → Makes m P i c x → ⊥
no-base m P i c a is pairs blank dead (symbol.Character b) base =
    search (rules, cases_Bool, eqb-true, first-member)
no-base m P i c a is pairs blank dead (symbol.DeadKey j) base = search (rules, same-dead)

-- a usable accent stands before the end of the accents
pub usable-below : (m : MapValue) (i n : ℕ) → usable m i ≡ true → slice_get m.accents n ≡ None → i < n
usable-below m i n can none = by (accent_at m i) refl
  where
    ends : length m.accents ≤ n
    ends = elim (cases_lt n (length m.accents)) [
      | inl lt ↦ absurd (none-some _ (sym none ∙ slice_get-get_or m.accents n (record { own = 0; pairs = [] }) lt))
      | inr le ↦ le
    ]

    by : (o : Option AccentValue) → accent_at m i ≡ o → i < n
    by None e = absurd (true≢false (sym can ∙ ap (λ z. has_own z) e))
    by (Some a) e = let within = slice_get_within m.accents i a e in omega (arith, within, ends)
