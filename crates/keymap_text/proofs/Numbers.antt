-- Names and numbers.
use Rattle.keymap_text.proofs.Common.{lt-ltb, ◌≡◌, ℕ, suc, ◌+◌, ◌*◌, ◌^◌, ◌<◌, ◌≤◌, Bool, true, false, cond, ◌&&◌, List}
use Rattle.keymap_text.proofs.Common.{[], ◌∷◌, length, take, drop, get_or, refl, ◌∙◌, ap, arith, drop-cons, pow_mono}
use Rattle.keymap_text.proofs.Common.{pow-add, Some, None, Option, mul-le-mul_left, ap₂, ◌==◌, take_all, at_drop_all}
use Rattle.keymap_text.proofs.Common.{fold_more, list_all, digit_value, Name, meaning_by_names, letters, sense_meaning}
use Rattle.keymap_text.proofs.Common.{same_name, digits_of, number, is_digit}
use Rattle.std.proofs.lemmas.List.Folds.{list_all_at, list_all_more}

-- no row has no name
pub no_rows : (w : List ℕ) → meaning_by_names [] w ≡ None
unfolding meaning_by_names
no_rows w = refl

-- the first row has the name
pub first_has_name : (name : Name) (names : List Name) (w : List ℕ) → same_name (letters name.0) w ≡ true
    → meaning_by_names (name ∷ names) w ≡ Some (sense_meaning name.1)
unfolding meaning_by_names
first_has_name name names w h = ap (λ b. cond b (Some (sense_meaning name.1)) (meaning_by_names names w)) h

-- the first row has another name
pub first_has_another : (name : Name) (names : List Name) (w : List ℕ) → same_name (letters name.0) w ≡ false
    → meaning_by_names (name ∷ names) w ≡ meaning_by_names names w
unfolding meaning_by_names
first_has_another name names w h = ap (λ b. cond b (Some (sense_meaning name.1)) (meaning_by_names names w)) h

-- past the last row there is no name
pub no_row_left : (names : List Name) (i : ℕ) (w : List ℕ) → length names ≤ i → meaning_by_names (drop i names) w ≡ None
no_row_left names i w h = at_drop_all (λ n. meaning_by_names n w) names i h ∙ no_rows w

-- the row at a place has the name
pub row_has_name : (names : List Name) (i : ℕ) (d : Name) (w : List ℕ) → i < length names
    → same_name (letters (get_or names i d).0) w ≡ true
    → meaning_by_names (drop i names) w ≡ Some (sense_meaning (get_or names i d).1)
row_has_name names i d w h e = ap (λ n. meaning_by_names n w) (drop-cons names i d h) ∙ first_has_name _ _ w e

-- the row at a place has another name
pub row_has_another : (names : List Name) (i : ℕ) (d : Name) (w : List ℕ) → i < length names
    → same_name (letters (get_or names i d).0) w ≡ false
    → meaning_by_names (drop i names) w ≡ meaning_by_names (drop (i + 1) names) w
row_has_another names i d w h e = grind (arith, drop-cons, first_has_another)

pub ruleset look_rules = (no_row_left, row_has_name, row_has_another)

-- a further digit makes a number four bits longer at most
bound_step : (n base d i : ℕ) → n < 2 ^ (4 * i) → base ≤ 16 → d < base → n * base + d < 2 ^ (4 * (i + 1))
bound_step n base d i h b e =
    let k = mul-le-mul_left n b in
    let p : 2 ^ (4 * (i + 1)) ≡ 2 ^ (4 * i) * 16 = ap (λ m. 2 ^ m) (four i) ∙ pow-add 2 (4 * i) 4 in
    omega (arith, k, p)
  where
    four : (i : ℕ) → 4 * (i + 1) ≡ 4 * i + 4
    four i = omega arith

-- no digit spells no number
pub digits_none : (base : ℕ) (w : List ℕ) → length w ≡ 0 → digits_of base w ≡ None
unfolding digits_of
digits_none base [] h = refl
digits_none base (x ∷ w) h = absurd (omega (arith, h))

-- no number, whatever another test says
pub none_of : (b : Bool) (x : Option ℕ) → cond (b && false) x None ≡ None
none_of b x = grind arith

-- a byte that is no digit spells no number
pub digits_bad : (base : ℕ) (w : List ℕ) (i : ℕ) → i < length w → base ≤ digit_value (get_or w i 0)
    → digits_of base w ≡ None
unfolding digits_of
digits_bad base w i h e = grind (arith, list_all_at)

-- digits alone spell their number
pub digits_good : (base : ℕ) (w : List ℕ) → 0 < length w → list_all (is_digit base) w ≡ true
    → digits_of base w ≡ Some (number base w)
unfolding digits_of
digits_good base [] h e = absurd (omega (arith, h))
digits_good base (x ∷ w) h e = rw (lt-ltb 0 (suc (length w)) (omega arith), e) refl

-- the number of digits with a further one
number_more : (base : ℕ) (w : List ℕ) (i : ℕ) → i < length w
    → number base (take (i + 1) w) ≡ number base (take i w) * base + digit_value (get_or w i 0)
number_more base w i h = fold_more (λ n c. n * base + digit_value c) 0 w i 0 h

-- digits with a further one behind them are digits
digits_more : (base : ℕ) (w : List ℕ) (i : ℕ) → i < length w → list_all (is_digit base) (take i w) ≡ true
    → digit_value (get_or w i 0) < base → list_all (is_digit base) (take (i + 1) w) ≡ true
digits_more base w i h e d = list_all_more (is_digit base) w i 0 h ∙ ap₂ (λ a b. a && b) e (lt-ltb _ _ d)

-- The first i bytes are digits, and spell n.
pub record Spells (base : ℕ) (w : List ℕ) (i n : ℕ) : Type 0 where
  pub value : n ≡ number base (take i w)
  pub digits : list_all (is_digit base) (take i w) ≡ true
  pub bound : n < 2 ^ (4 * i)

-- a number with a further digit fits in four bits for each digit that there may be
pub more_fits : {base : ℕ} {w : List ℕ} {i n d : ℕ} (most : ℕ) → Spells base w i n → base ≤ 16 → d < base → i < most
    → n * base + d < 2 ^ (4 * most)
more_fits {base = base} {i = i} {n = n} {d = d} most s b e l =
    let room : 2 ^ (4 * (i + 1)) ≤ 2 ^ (4 * most) = pow_mono {i = 4 * (i + 1)} {j = 4 * most} (omega arith) in
    omega (arith, room, bound_step n base d i s.bound b e)

pub spells_more : {base : ℕ} {w : List ℕ} {i n d : ℕ} → i < length w → base ≤ 16 → d ≡ digit_value (get_or w i 0)
    → d < base → Spells base w i n → Spells base w (i + 1) (n * base + d)
spells_more h b is e s = grind (arith, bound_step, digits_more, number_more)

-- digits to the end of a word spell its number
pub spells_all : {base : ℕ} {w : List ℕ} {i n : ℕ} → (length w == 0) ≡ false → length w ≤ i → Spells base w i n
    → Some n ≡ digits_of base w
spells_all some h s = grind (arith, digits_good, take_all)
