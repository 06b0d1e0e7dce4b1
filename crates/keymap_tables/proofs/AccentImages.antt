-- The image of an accent: it has no fault, and gives the accent.
use Rattle.keymap_tables.proofs.Common.{common_steps, ◌≡◌, ◌≢◌, ℕ, ◌+◌, ◌-◌, ◌*◌, ◌<◌, ◌≤◌, ◌==◌, suc, zero, List, []}
use Rattle.keymap_tables.proofs.Common.{◌∷◌, ◌++◌, length, get_or, refl, sym, ap, ◌∙◌, arith, subst, add-zero, take}
use Rattle.keymap_tables.proofs.Common.{All, Bool, true, false, IsScalar, from_le_bytes, flat_map, nat_tests, rules}
use Rattle.keymap_tables.proofs.Common.{get_or_past, All-nil, All-same, All-push, All-cons, All-head, All-tail}
use Rattle.keymap_tables.proofs.Common.{All-get_or, AccentValue, blank, IsPair, IsAccent, number_at, base_at, pairs_in}
use Rattle.keymap_tables.proofs.Common.{char_fault, number_fault, accent_fault, zero_fault, HasNoFault, AreRows}
use Rattle.keymap_tables.proofs.Common.{IsAccentIn, number_bytes, numbers_of, accent_bytes, zeros, number_width}
use Rattle.keymap_tables.proofs.Common.{number_size, number_limit, accent_size, Layout, Wide, Narrow, NotEmpty}
use Rattle.std.specs.Prelude.{not}
use Rattle.std.specs.List.{range_with_len, prefix_len}
use Rattle.std.proofs.lemmas.List.Folds.{length-prefix_len}
use Rattle.keymap_tables.proofs.Lifting.{row-past, number-clean, none-past}
use Rattle.keymap_tables.proofs.Numbers.{AreBytes, number-read, number-back, same-number, zeros-behind}
use Rattle.keymap_tables.proofs.Rows.{length-rows, length-all, filled-row, rows-clean, rows-read, same-rows}
use Rattle.keymap_tables.proofs.Sizes.{All-at, row-inside, some-number, zero-fits, accent-some, accent-blank}
use Rattle.keymap_tables.proofs.Sizes.{length-number}
use Rattle.keymap_tables.proofs.SlotImages.{char-sound}

-- how many numbers from a on pass a test, of those below a + k
pub prefix_len-range : (test : ℕ → Bool) (a n k : ℕ) → n ≤ k → ((i : ℕ) → i < n → test (a + i) ≡ true)
    → (n < k → test (a + n) ≡ false) → prefix_len test (range_with_len a k) ≡ n
prefix_len-range test a zero zero few passing stops = refl
prefix_len-range test a zero (suc k) few passing stops = grind arith
prefix_len-range test a (suc n) zero few passing stops = absurd (omega arith)
prefix_len-range test a (suc n) (suc k) few passing stops =
    let here : test a ≡ true = subst (λ (v : ℕ). test v ≡ true) (add-zero a) (passing 0 (omega arith)) in
    let next : (i : ℕ) → a + suc i ≡ (a + 1) + i = λ i. omega arith in
    let rest : prefix_len test (range_with_len (a + 1) k) ≡ n =
    prefix_len-range test (a + 1) n k (omega arith)
    (λ i below. subst (λ (v : ℕ). test v ≡ true) (next i) (passing (suc i) (omega arith)))
    (λ below. subst (λ (v : ℕ). test v ≡ false) (next n) (stops (omega arith))) in
    rw (here, rest) (omega arith)

is_some_base : (n : ℕ) → n ≢ 0 → not (n == 0) ≡ true
is_some_base n some = grind (arith, nat_tests)

is_no_base : (n : ℕ) → n ≡ 0 → not (n == 0) ≡ false
is_no_base n none = rw none refl

from_zero : (i : ℕ) → i ≡ 0 + i
from_zero i = omega arith

-- the pairs that were counted
pub pairs-counted : (l : Layout) (bytes : List ℕ) (n : ℕ) → n ≤ 52 → ((pair : ℕ) → pair < n → base_at l bytes pair ≢ 0)
    → (n < 52 → base_at l bytes n ≡ 0) → n ≡ pairs_in l bytes
unfolding pairs_in
pairs-counted l bytes n few some none =
    let test : ℕ → Bool = λ pair. not (base_at l bytes pair == 0) in
    let count : prefix_len test (range_with_len 0 52) ≡ n =
    prefix_len-range test 0 n 52 few
    (λ i below. subst (λ (v : ℕ). test v ≡ true) (from_zero i) (is_some_base (base_at l bytes i) (some i below)))
    (λ below. subst (λ (v : ℕ). test v ≡ false) (from_zero n) (is_no_base (base_at l bytes n) (none below))) in
    sym (length-prefix_len test (range_with_len 0 52) ∙ count)

-- The numbers of an accent.
abbrev flat : List (ℕ × ℕ) → List ℕ
flat pairs = flat_map (λ pair. pair.0 ∷ pair.1 ∷ []) pairs

length-flat : (pairs : List (ℕ × ℕ)) → length (flat pairs) ≡ 2 * length pairs
length-flat [] = refl
length-flat (p ∷ pairs) = omega (arith, length-flat pairs)

-- an accent has as many numbers as its pairs have, and its own
pub length-numbers : (accent : AccentValue) → length (numbers_of accent) ≡ 1 + 2 * length accent.pairs
length-numbers accent = omega (arith, length-flat accent.pairs)

-- behind the accent's own number each pair has two: the base, and the result
pub number-base : (own : ℕ) (pairs : List (ℕ × ℕ)) (i : ℕ)
    → get_or (own ∷ flat pairs) (1 + 2 * i) 0 ≡ (get_or pairs i (0, 0)).0
number-base own [] i = get_or_past (own ∷ []) (1 + 2 * i) 0 (omega arith)
number-base own (p ∷ pairs) zero = refl
number-base own (p ∷ pairs) (suc i) = search (rules, number-base p.1 pairs i)

pub number-result : (own : ℕ) (pairs : List (ℕ × ℕ)) (i : ℕ)
    → get_or (own ∷ flat pairs) (2 + 2 * i) 0 ≡ (get_or pairs i (0, 0)).1
number-result own [] i = get_or_past (own ∷ []) (2 + 2 * i) 0 (omega arith)
number-result own (p ∷ pairs) zero = refl
number-result own (p ∷ pairs) (suc i) = search (rules, number-result p.1 pairs i)

flat-known : (pairs : List (ℕ × ℕ)) → All IsPair pairs → All IsScalar (flat pairs)
flat-known [] known = All-nil IsScalar
flat-known (p ∷ pairs) known =
    search (rules, All-head, All-cons, All-tail, flat-known pairs (All-tail IsPair p pairs known))

-- the numbers of a known accent are characters
pub numbers-known : (accent : AccentValue) → IsAccent accent → All IsScalar (numbers_of accent)
numbers-known accent known =
    All-cons IsScalar accent.own (flat accent.pairs) known.own (flat-known accent.pairs known.pairs)

same-flat : (xs ys : List (ℕ × ℕ)) → flat xs ≡ flat ys → xs ≡ ys
same-flat [] [] same = refl
same-flat [] (q ∷ ys) same = cc
same-flat (p ∷ xs) [] same = cc
same-flat (p ∷ xs) (q ∷ ys) same =
    let first : p.0 ≡ q.0 = cc in
    let second : p.1 ≡ q.1 = cc in
    let rest : flat xs ≡ flat ys = cc in
    ap (λ (v : ℕ). (v, p.1) ∷ xs) first ∙ ap (λ (v : ℕ). (q.0, v) ∷ xs) second
    ∙ ap (λ (v : List (ℕ × ℕ)). q ∷ v) (same-flat xs ys rest)

-- the numbers of an accent with a further pair
pub flat-push : (own : ℕ) (pairs : List (ℕ × ℕ)) (p : ℕ × ℕ)
    → own ∷ flat (pairs ++ p ∷ []) ≡ ((own ∷ flat pairs) ++ p.0 ∷ []) ++ p.1 ∷ []
flat-push own pairs p = grind (arith, common_steps)

-- the numbers of an accent give the accent
numbers-one : (x y : AccentValue) → numbers_of x ≡ numbers_of y → x ≡ y
numbers-one x y same =
    let own : x.own ≡ y.own = cc in
    let rest : flat x.pairs ≡ flat y.pairs = cc in
    ap (λ (v : ℕ). record x { own = v }) own
    ∙ ap (λ (v : List (ℕ × ℕ)). record y { pairs = v }) (same-flat x.pairs y.pairs rest)

-- Their bytes.
number-blank : (l : Layout) → number_bytes l 0 ≡ zeros (number_size l)
number-blank Wide = refl
number-blank Narrow = refl

module _ (l : Layout) (accent : AccentValue) (is : IsAccentIn l accent) where
  sized : All (λ n. length (number_bytes l n) ≡ number_size l) (numbers_of accent)
  sized k d below = length-number l (get_or (numbers_of accent) k d)

  few : length (numbers_of accent) ≤ 105
  few = omega (arith, length-numbers accent, is.0.few)

  length-accent_bytes : length (accent_bytes l accent) ≡ accent_size l
  length-accent_bytes = length-all (number_bytes l) (number_size l) 105 (numbers_of accent) sized few

  small : (k : ℕ) → get_or (numbers_of accent) k 0 < number_limit l
  small k = All-at (λ n. n < number_limit l) (numbers_of accent) 0 k (zero-fits l) is.1

  -- each number stands at its place, and 0 behind them
  pub number-in : (k : ℕ) → k < 105
      → number_at l (accent_bytes l accent) (number_size l * k) ≡ get_or (numbers_of accent) k 0
  number-in k below =
      ap (from_le_bytes (number_width l))
      (filled-row (number_bytes l) (number_size l) 0 105 (numbers_of accent) k sized (number-blank l) few below)
      ∙ number-back l (get_or (numbers_of accent) k 0) (small k)

  pub base-in : (i : ℕ) → i < 52 → base_at l (accent_bytes l accent) i ≡ (get_or accent.pairs i (0, 0)).0
  base-in i below = number-in (1 + 2 * i) (omega arith) ∙ number-base accent.own accent.pairs i

  pub result-in : (i : ℕ) → i < 52
      → number_at l (accent_bytes l accent) (number_size l * (2 + 2 * i)) ≡ (get_or accent.pairs i (0, 0)).1
  result-in i below = number-in (2 + 2 * i) (omega arith) ∙ number-result accent.own accent.pairs i

  -- the pairs found in the bytes of an accent are as many as it has
  pairs-of : length accent.pairs ≡ pairs_in l (accent_bytes l accent)
  pairs-of =
      pairs-counted l (accent_bytes l accent) (length accent.pairs) is.0.few
      (λ i below none. let known = All-get_or IsPair accent.pairs i (0, 0) below is.0.pairs in
      known.1 (sym (base-in i (omega (arith, is.0.few))) ∙ none))
      (λ room. base-in (length accent.pairs) room
      ∙ ap (λ (p : ℕ × ℕ). p.0) (get_or_past accent.pairs (length accent.pairs) (0, 0) (omega arith)))

  -- the bytes of an accent that fits have no fault
  accent_bytes-sound : HasNoFault (accent_fault l (accent_bytes l accent)) (accent_size l)
  accent_bytes-sound =
      let s = number_size l in
      let bytes = accent_bytes l accent in
      let n = 1 + 2 * pairs_in l bytes in
      let counted : 1 + 2 * pairs_in l (accent_bytes l accent) ≡ length (numbers_of accent) =
      omega (arith, length-numbers accent, pairs-of) in
      let long : length (flat_map (number_bytes l) (numbers_of accent))
      ≡ number_size l * (1 + 2 * pairs_in l (accent_bytes l accent)) =
      length-rows (number_bytes l) (number_size l) (numbers_of accent) sized
      ∙ ap (λ (k : ℕ). number_size l * k) (sym counted) in
      none-past NotEmpty (accent_fault l bytes) bytes (s * n) (accent_size l)
      (λ p past inside. row-past (λ i. number_fault (number_width l) char_fault) s n (zero_fault NotEmpty bytes) bytes p
      (some-number l) past)
      (rows-clean (number_bytes l) s (λ i. number_fault (number_width l) char_fault) n (zero_fault NotEmpty bytes)
      (numbers_of accent) (zeros (s * (105 - length (numbers_of accent)))) 0 (some-number l) counted sized
      (λ i below. number-clean (number_width l) char_fault (number_bytes l (get_or (numbers_of accent) i 0)) s
      (ap char_fault (number-back l (get_or (numbers_of accent) i 0) (small i))
      ∙ char-sound (get_or (numbers_of accent) i 0)
      (All-get_or IsScalar (numbers_of accent) i 0 below (numbers-known accent is.0)))))
      (λ p past. zeros-behind (flat_map (number_bytes l) (numbers_of accent))
      (s * (105 - length (numbers_of accent))) p (omega (arith, long, past)))

-- accents that fit are the same where their bytes are
pub same-accent : (l : Layout) (x y : AccentValue) → IsAccentIn l x → IsAccentIn l y
    → accent_bytes l x ≡ accent_bytes l y → x ≡ y
same-accent l x y known also same =
    let counted : length (numbers_of x) ≡ length (numbers_of y) =
    omega (
      arith,
      length-numbers x,
      length-numbers y,
      pairs-of l x known ∙ ap (pairs_in l) same ∙ sym (pairs-of l y also),
    ) in
    numbers-one x y (same-rows (number_bytes l) (number_size l) (λ n. n < number_limit l) (numbers_of x) (numbers_of y)
    (zeros (number_size l * (105 - length (numbers_of x)))) (zeros (number_size l * (105 - length (numbers_of y))))
    (same-number l) (sized l x known) (sized l y also) known.1 also.1 counted same)

-- the accents of a table are rows
pub accents-are : (l : Layout) → AreRows (accent_bytes l) (accent_size l) (accent_fault l) (IsAccentIn l) blank
accents-are l = record {
  some = accent-some l;
  whole = length-accent_bytes l;
  sound = accent_bytes-sound l;
  one = same-accent l;
  empty = accent-blank l;
}

-- a further pair is read
pub pair-read : (l : Layout) (bytes : List ℕ) (own : ℕ) (pairs : List (ℕ × ℕ)) (i base composed : ℕ) → AreBytes bytes
    → length bytes ≡ accent_size l → i < 52
    → flat_map (number_bytes l) (own ∷ flat pairs) ≡ take (number_size l * (1 + 2 * i)) bytes
    → base ≡ number_at l bytes (number_size l * (1 + 2 * i))
    → composed ≡ number_at l bytes (number_size l * (2 + 2 * i))
    → flat_map (number_bytes l) (own ∷ flat (pairs ++ (base, composed) ∷ []))
    ≡ take (number_size l * (1 + 2 * (i + 1))) bytes
pair-read l bytes own pairs i base composed small whole below so_far first second =
    let s = number_size l in
    let inside : (k : ℕ) → k < 105 → number_size l * k + number_size l ≤ length bytes =
    λ k few. omega (arith, row-inside (number_size l) 105 k few) in
    let next : 1 + 2 * i + 1 ≡ 2 + 2 * i = omega arith in
    let last : 2 + 2 * i + 1 ≡ 1 + 2 * (i + 1) = omega arith in
    ap (flat_map (number_bytes l)) (flat-push own pairs (base, composed))
    ∙ rows-read (number_bytes l) s bytes ((own ∷ flat pairs) ++ base ∷ []) (2 + 2 * i) composed
    (rows-read (number_bytes l) s bytes (own ∷ flat pairs) (1 + 2 * i) base so_far
    (number-read l bytes (s * (1 + 2 * i)) base small (inside (1 + 2 * i) (omega arith)) first)
    ∙ ap (λ (k : ℕ). take (number_size l * k) bytes) next)
    (number-read l bytes (s * (2 + 2 * i)) composed small (inside (2 + 2 * i) (omega arith)) second)
    ∙ ap (λ (k : ℕ). take (number_size l * k) bytes) last

-- a further pair fits
pub pair-fits : (l : Layout) (own : ℕ) (pairs : List (ℕ × ℕ)) (p : ℕ × ℕ)
    → All (λ n. n < number_limit l) (own ∷ flat pairs) → p.0 < number_limit l → p.1 < number_limit l
    → All (λ n. n < number_limit l) (own ∷ flat (pairs ++ p ∷ []))
pair-fits l own pairs p so_far first second =
    All-same (λ n. n < number_limit l) _ _ (flat-push own pairs p)
    (All-push (λ n. n < number_limit l) ((own ∷ flat pairs) ++ p.0 ∷ []) p.1
    (All-push (λ n. n < number_limit l) (own ∷ flat pairs) p.0 so_far first) second)
