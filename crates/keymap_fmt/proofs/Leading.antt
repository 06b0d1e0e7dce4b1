-- What is left where the end of a line is cut.
use Rattle.keymap_fmt.proofs.Common.{common_steps, ◌≡◌, ℕ, suc, ◌-◌, ◌<◌, ◌≤◌, Bool, false, List, ◌∷◌, ◌++◌, length}
use Rattle.keymap_fmt.proofs.Common.{take, get_or, sym, ◌∙◌, ap, arith, true≢false, ⊎_elim, suffix_len, leading}
use Rattle.keymap_fmt.proofs.Common.{is_space, leading_fail, trimmed}
use Rattle.std.proofs.Common.{eq-or-lt_of_le}
use Rattle.std.proofs.lemmas.List.{get_or-reverse, length-reverse}
use Rattle.std.proofs.lemmas.List.Sums.{prefix_len_passes, prefix_len_stops, suffix_len-le-length}
use Rattle.std.specs.Prelude.{reverse}
use Rattle.keymap_text.proofs.Shared.{leading_append}

-- bytes that all pass, before one that fails
pub leading_ended : (p : ℕ → Bool) (w : List ℕ) (c : ℕ) (y : List ℕ) → leading p w ≡ length w → p c ≡ false
    → leading p (w ++ c ∷ y) ≡ length w
leading_ended p w c y h e = omega (arith, leading_append p w (c ∷ y) h, leading_fail p c y e)

-- nothing is cut of bytes that end with no blank
pub trim_kept : (w : List ℕ) → 0 < length w → is_space (get_or w (length w - 1) 0) ≡ false → trimmed w ≡ w
unfolding trimmed
trim_kept w l h = grind (arith, common_steps)

-- What is left of bytes that begin with no blank: the first, and m others, of which the last is no blank.
pub record IsCut (c m : ℕ) (w : List ℕ) : Type 0 where
  pub within : m ≤ length w
  pub is : trimmed (c ∷ w) ≡ c ∷ take m w
  pub end : is_space (get_or (c ∷ w) m 0) ≡ false

pub trim_first : (c : ℕ) (w : List ℕ) → is_space c ≡ false → (m : ℕ) × IsCut c m w
unfolding trimmed
trim_first c w h = (
  length w - s,
  record {
    within = omega arith;
    is = ap (λ n. take n (c ∷ w)) size;
    end = ap (λ n. is_space (get_or (c ∷ w) n 0)) place
        ∙ sym (ap is_space (get_or-reverse (c ∷ w) s 0 (omega (arith, few))))
        ∙ prefix_len_stops is_space (reverse (c ∷ w)) 0 (omega (arith, few, length-reverse (c ∷ w)));
  },
)
  where
    s : ℕ
    s = suffix_len is_space (c ∷ w)

    not_all : s ≡ suc (length w) → ⊥
    not_all e = true≢false (sym (prefix_len_passes is_space (reverse (c ∷ w)) (length w) 0 (omega (arith, e)))
        ∙ ap is_space (get_or-reverse (c ∷ w) (length w) 0 (omega arith)
        ∙ ap (λ n. get_or (c ∷ w) n 0) (first (length w))) ∙ h)
      where
        first : (n : ℕ) → suc n - 1 - n ≡ 0
        first n = omega arith

    few : s ≤ length w
    few = ⊎_elim
        (λ e. absurd (not_all e))
        (λ l. omega (arith, l))
        (eq-or-lt_of_le (suffix_len-le-length is_space (c ∷ w)))

    size : suc (length w) - s ≡ suc (length w - s)
    size = omega (arith, few)

    place : length w - s ≡ suc (length w) - 1 - s
    place = omega arith
