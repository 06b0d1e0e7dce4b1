-- What is read in place, in the bytes of an image.
use Rattle.keymap_tables.proofs.Common.{common_steps, rules, ◌≡◌, ℕ, ◌+◌, ◌*◌, ◌<◌, ◌≤◌, List, length, drop, get_or}
use Rattle.keymap_tables.proofs.Common.{◌≢◌, None, Some, sym, ap, ◌∙◌, arith, get_or_past, All-get_or, cases_lt}
use Rattle.keymap_tables.proofs.Common.{AccentValue, first_result, IsAccentIn, base_at, number_at, accent_bytes}
use Rattle.keymap_tables.proofs.Common.{Layout, number_size}
use Rattle.std.proofs.lemmas.List.{drop_all}
use Rattle.keymap_tables.proofs.AccentImages.{base-in, result-in}

-- the result of the first of the pairs from a place on, where it is the one there, and where it isn't
pub result-here : (accent : AccentValue) (i base : ℕ) → i < length accent.pairs
    → (get_or accent.pairs i (0, 0)).0 ≡ base
    → first_result (drop i accent.pairs) base ≡ Some (get_or accent.pairs i (0, 0)).1
result-here accent i base below is = grind (arith, common_steps)

-- a pair of another base is passed over
pub result-later : (accent : AccentValue) (i base : ℕ) → i < length accent.pairs
    → (get_or accent.pairs i (0, 0)).0 ≢ base
    → first_result (drop i accent.pairs) base ≡ first_result (drop (i + 1) accent.pairs) base
result-later accent i base below other = grind (arith, common_steps)

-- behind the last pair no base is left
pub result-none : (accent : AccentValue) (i base : ℕ) → length accent.pairs ≤ i
    → first_result (drop i accent.pairs) base ≡ None
result-none accent i base past = ap (λ (v : List (ℕ × ℕ)). first_result v base) (drop_all i accent.pairs past)

-- a result that is read in the bytes of an accent is the pair's
pub result-of : (l : Layout) (bytes : List ℕ) (a : AccentValue) (i : ℕ) → IsAccentIn l a → i < 52
    → bytes ≡ accent_bytes l a → number_at l bytes (number_size l * (2 + 2 * i)) ≡ (get_or a.pairs i (0, 0)).1
result-of l bytes a i is room same =
    ap (λ (v : List ℕ). number_at l v (number_size l * (2 + 2 * i))) same ∙ result-in l a is i room

-- What is read at a pair, in the bytes of an accent.
module _ (l : Layout) (bytes : List ℕ) (a : AccentValue) (is : IsAccentIn l a) (same : bytes ≡ accent_bytes l a)
    (i n : ℕ) (room : i < 52) (read : n ≡ number_at l bytes (number_size l * (1 + 2 * i))) where
  pub base-of : (get_or a.pairs i (0, 0)).0 ≡ n
  base-of = sym (read ∙ ap (λ (v : List ℕ). base_at l v i) same ∙ base-in l a is i room)

  -- a base that isn't 0 is that of a pair, and behind a base 0 there is none
  pub below-of : n ≢ 0 → i < length a.pairs
  below-of filled = search (rules, cases_lt, base-of, get_or_past)

  pub past-of : n ≡ 0 → length a.pairs ≤ i
  past-of empty = let known = is.0 in search (rules, cases_lt, All-get_or, base-of)

  -- the first pair of a base answers it
  pub answer-of : (base c : ℕ) → n ≢ 0 → n ≡ base → c ≡ number_at l bytes (number_size l * (2 + 2 * i))
      → first_result (drop i a.pairs) base ≡ first_result a.pairs base → Some c ≡ first_result a.pairs base
  answer-of base c filled here value so_far =
      ap Some (value ∙ result-of l bytes a i is room same)
      ∙ sym (result-here a i base (below-of filled) (base-of ∙ here)) ∙ so_far

  -- a pair of another base doesn't
  pub later-of : (base : ℕ) → n ≢ 0 → n ≢ base → first_result (drop i a.pairs) base ≡ first_result a.pairs base
      → (i + 1 ≤ length a.pairs) × (first_result (drop (i + 1) a.pairs) base ≡ first_result a.pairs base)
  later-of base filled other so_far = (
    omega (arith, below-of filled),
    sym (result-later a i base (below-of filled) (λ e. other (sym base-of ∙ e))) ∙ so_far,
  )
