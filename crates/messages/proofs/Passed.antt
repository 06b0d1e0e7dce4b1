-- What all bytes pass: of numbers, and of words with texts at their places.
use Rattle.std.proofs.Common.{zero, suc, ◌≡◌, ℕ, ◌<◌, ◌/◌, ◌%◌, ◌+◌, ◌==◌, Bool, true, false, ◌++◌, List, [], ◌∷◌, take}
use Rattle.std.proofs.Common.{drop, refl, ap, sym, ◌∙◌, arith}
use Rattle.std.specs.Prelude.{decimal}
use Rattle.std.specs.Fmt.{digits, digits_onto, digit_glyph}
use Rattle.std.specs.List.{list_all, position_or_len}
use Rattle.std.proofs.lemmas.Bool.{agree_below, agree_below_at, and_from, and_parts, cond_both}
use Rattle.std.proofs.lemmas.List.{take-append-drop}
use Rattle.std.proofs.lemmas.List.Folds.{list_all-append}
use Rattle.messages.specs.Filled.{filled, is_hole, words_before, words_behind}

pub append_all : (p : ℕ → Bool) (a b : List ℕ) → list_all p a ≡ true → list_all p b ≡ true
    → list_all p (a ++ b) ≡ true
append_all p a b h k = list_all-append p a b ∙ and_from _ _ h k

-- both parts of what passes do
pub parts_all : (p : ℕ → Bool) (n : ℕ) (bs : List ℕ) → list_all p bs ≡ true
    → (list_all p (take n bs) ≡ true) × (list_all p (drop n bs) ≡ true)
parts_all p n bs h =
    and_parts _ _ (sym (list_all-append p (take n bs) (drop n bs)) ∙ ap (list_all p) (take-append-drop n bs) ∙ h)

-- all bytes of these texts pass
abbrev pub EachPasses : (ℕ → Bool) → List (List ℕ) → Type 0
EachPasses p [] = Unit {0}
EachPasses p (t ∷ ts) = (list_all p t ≡ true) × EachPasses p ts

pub filled_all : (p : ℕ → Bool) (w : List ℕ) (ts : List (List ℕ)) → list_all p w ≡ true → EachPasses p ts
    → list_all p (filled w ts) ≡ true
unfolding filled
filled_all p w [] h ps = h
filled_all p w (t ∷ ts) h ps =
    append_all p (words_before w ++ t) (filled (words_behind w) ts)
    (append_all p (words_before w) t (parts_all p (position_or_len is_hole w) w h).0 ps.0)
    (filled_all p (words_behind w) ts (parts_all p (position_or_len is_hole w + 2) w h).1 ps.1)

-- what each digit passes, all digits of a number pass
onto_all : (p : ℕ → Bool) → ((d : ℕ) → d < 10 → p (digit_glyph false d) ≡ true) → (k n : ℕ) (acc : List ℕ)
    → list_all p acc ≡ true → list_all p (digits_onto k 10 false n acc) ≡ true
onto_all p each zero n acc h = h
onto_all p each (suc k) n acc h =
    let here : list_all p (digit_glyph false (n % 10) ∷ acc) ≡ true = and_from _ _ (each (n % 10) (omega arith)) h in
    cond_both (n / 10 == 0) _ _ (λ ds. list_all p ds ≡ true) (λ _. here)
    (λ _. onto_all p each k (n / 10) (digit_glyph false (n % 10) ∷ acc) here)

pub decimal_all : (p : ℕ → Bool) → ((d : ℕ) → d < 10 → p (digit_glyph false d) ≡ true) → (n : ℕ)
    → list_all p (decimal n) ≡ true
unfolding digits
decimal_all p each n = onto_all p each 64 n [] refl

-- the digits of each number pass where the ten digits do, by computation
pub decimal_passes : (p : ℕ → Bool) → agree_below (λ d. p (digit_glyph false d)) (λ _. true) 10 ≡ true → (n : ℕ)
    → list_all p (decimal n) ≡ true
decimal_passes p h n = decimal_all p (λ d low. agree_below_at (λ d. p (digit_glyph false d)) (λ _. true) 10 d h low) n
