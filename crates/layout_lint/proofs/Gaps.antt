-- What stands between the end of a token and a place behind it, and so where a `#` there stands.
use Rattle.layout_lint.proofs.Common.{Bool, List, Option, Some, [], All, ap, arith, cond, count_by, drop, false, get_or}
use Rattle.layout_lint.proofs.Common.{length, nat_lt, not, refl, subst, suc, sym, take, true, zero, ℕ, ◌++◌, ◌+◌}
use Rattle.layout_lint.proofs.Common.{◌-◌, ◌<◌, ◌==◌, ◌∙◌, ◌∷◌, ◌≡◌, ◌≤◌}
use Rattle.std.specs.Prelude.{reverse}
use Rattle.std.specs.List.{find, suffix_len}
use Rattle.std.proofs.Math.Seq.{take-add}
use Rattle.std.proofs.lemmas.Bool.{lt-ltb}
use Rattle.std.proofs.lemmas.Bool.Decides.{nat_tests}
use Rattle.std.proofs.lemmas.List.{get_or-drop, get_or-reverse, length-drop}
use Rattle.std.proofs.lemmas.List.{reverse-append, take-append-drop, take_more}
use Rattle.std.proofs.lemmas.List.Elements.{All-head, All-tail}
use Rattle.std.proofs.lemmas.List.Sums.{prefix_len_passes, sum_by-append, sum_by-cons}
use Rattle.keymap_text.specs.Lexical.{is_blank, is_space}
use Rattle.keymap_text.specs.declared.token.Span.{Span}
use Rattle.keymap_lint.specs.Directives.{last_other, standing_by, tokens_before, trimmed}
use Rattle.keymap_lint.proofs.Shared.{stands_inside, stands_so}
use Rattle.layout_lint.specs.Layouts.{is_nonblank, nonblank_before}

-- ---- bytes that are no blanks

abbrev pub nonblanks : List ℕ → ℕ
nonblanks bytes = count_by is_nonblank bytes

pub nonblanks-append : (xs ys : List ℕ) → nonblanks (xs ++ ys) ≡ nonblanks xs + nonblanks ys
nonblanks-append xs ys = sum_by-append (λ c. cond (is_nonblank c) 1 0) xs ys

-- those before a place, and those from it on
pub nonblanks_on : (text : List ℕ) (q n : ℕ)
    → nonblank_before text (q + n) ≡ nonblank_before text q + nonblanks (take n (drop q text))
nonblanks_on text q n = ap nonblanks (take-add q n text) ∙ nonblanks-append (take q text) (take n (drop q text))

pub no_nonblanks : (xs : List ℕ) → ((k : ℕ) → k < length xs → is_space (get_or xs k 0) ≡ true) → nonblanks xs ≡ 0
no_nonblanks [] all = refl
no_nonblanks (x ∷ xs) all =
    let first : is_blank x ≡ true = blank x (all 0 (omega arith)) in
    sum_by-cons (λ c. cond (is_nonblank c) 1 0) x xs
    ∙ (λ i. cond (not (first i)) 1 0 + no_nonblanks xs (λ k low. all (suc k) (omega (arith, low))) i)
  where
    blank : (c : ℕ) → is_space c ≡ true → is_blank c ≡ true
    blank c e = grind (arith, nat_tests, e)

-- the bytes that are cut at an end are spaces
cut_spaces : (xs : List ℕ) (k : ℕ) → k < length (drop (length xs - suffix_len is_space xs) xs)
    → is_space (get_or (drop (length xs - suffix_len is_space xs) xs) k 0) ≡ true
cut_spaces xs k low =
    let s : ℕ = suffix_len is_space xs in
    let size : length (drop (length xs - s) xs) ≡ length xs - (length xs - s) = length-drop (length xs - s) xs in
    let place : length xs - s + k ≡ length xs - 1 - (length xs - 1 - (length xs - s + k)) = omega (arith, low, size) in
    ap is_space (get_or-drop (length xs - s) xs k 0 ∙ ap (λ i. get_or xs i 0) place
    ∙ sym (get_or-reverse xs (length xs - 1 - (length xs - s + k)) 0 (omega (arith, low, size))))
    ∙ prefix_len_passes is_space (reverse xs) (length xs - 1 - (length xs - s + k)) 0 (omega (arith, low, size))

pub nonblanks_trimmed : (xs : List ℕ) → nonblanks (trimmed xs) ≡ nonblanks xs
unfolding trimmed
nonblanks_trimmed xs =
    let n : ℕ = length xs - suffix_len is_space xs in
    let none = no_nonblanks (drop n xs) (cut_spaces xs) in
    omega (arith, none, nonblanks-append (take n xs) (drop n xs), ap nonblanks (take-append-drop n xs))

-- ---- counts

pub count_all : {X : Type 0} (p : X → Bool) (xs : List X) → All (λ x. p x ≡ true) xs → count_by p xs ≡ length xs
count_all p [] all = refl
count_all p (x ∷ xs) all =
    let first = All-head (λ x. p x ≡ true) x xs all in
    let rest = count_all p xs (All-tail (λ x. p x ≡ true) x xs all) in
    sum_by-cons (λ x. cond (p x) 1 0) x xs ∙ (λ i. cond (first i) 1 0 + rest i) ∙ omega arith

pub count_none : {X : Type 0} (p : X → Bool) (xs : List X) → All (λ x. p x ≡ false) xs → count_by p xs ≡ 0
count_none p [] all = refl
count_none p (x ∷ xs) all =
    let first = All-head (λ x. p x ≡ false) x xs all in
    let rest = count_none p xs (All-tail (λ x. p x ≡ false) x xs all) in
    sum_by-cons (λ x. cond (p x) 1 0) x xs ∙ (λ i. cond (first i) 1 0 + rest i)

-- those of the first list begin before the place, and those of the second don't
pub tokens_split : (done more : List Span) (p : ℕ) → All (λ (s : Span). s.start < p) done
    → All (λ (s : Span). p ≤ s.start) more → tokens_before (done ++ more) p ≡ length done
tokens_split done more p before behind =
    let first = count_all (λ (s : Span). nat_lt s.start p) done (λ k d low. lt-ltb _ p (before k d low)) in
    let rest = count_none (λ (s : Span). nat_lt s.start p) more
    (λ k d low. let l = behind k d low in grind (arith, nat_tests, l)) in
    sum_by-append (λ (s : Span). cond (nat_lt s.start p) 1 0) done more ∙ (λ i. first i + rest i) ∙ omega arith

-- ---- gaps

-- the bytes from the end of a token up to a place
abbrev pub gap : List ℕ → ℕ → ℕ → List ℕ
gap text from p = take (p - from) (drop from text)

last_more : (xs : List ℕ) (c : ℕ) → last_other (xs ++ c ∷ []) ≡ cond (not (is_space c)) (Some c) (last_other xs)
last_more xs c = ap (find (λ c. not (is_space c))) (reverse-append xs (c ∷ []))

-- one byte more
pub gap_more : (text : List ℕ) (from p c : ℕ) → from ≤ p → p < length text → get_or text p 0 ≡ c
    → last_other (gap text from (p + 1)) ≡ cond (not (is_space c)) (Some c) (last_other (gap text from p))
gap_more text from p c up low e =
    let n : ℕ = p - from in
    let size : p + 1 - from ≡ n + 1 = omega (arith, up) in
    let place : from + n ≡ p = omega (arith, up) in
    ap (λ n. last_other (take n (drop from text))) size
    ∙ ap last_other (take_more (drop from text) n 0 (omega (arith, length-drop from text, low, up)))
    ∙ ap (λ c. last_other (take n (drop from text) ++ c ∷ []))
    (get_or-drop from text n 0 ∙ ap (λ i. get_or text i 0) place ∙ e)
    ∙ last_more (take n (drop from text)) c

-- behind a line end a `#` stands alone in its line
pub gap_line : (text : List ℕ) (from p : ℕ) → from ≤ p → p < length text → get_or text p 0 ≡ 10 → (n : ℕ)
    → standing_by n (last_other (gap text from (p + 1))) ≡ stands_so false
gap_line text from p up low e n = ap (standing_by n) (gap_more text from p 10 up low e)

-- behind a space it stands where it would before it
pub gap_space : (text : List ℕ) (from p : ℕ) → from ≤ p → p < length text → is_space (get_or text p 0) ≡ true
    → last_other (gap text from (p + 1)) ≡ last_other (gap text from p)
gap_space text from p up low e =
    gap_more text from p (get_or text p 0) up low refl
    ∙ ap (λ b. cond (not b) (Some (get_or text p 0)) (last_other (gap text from p))) e

-- the last byte that is no space is no line end
abbrev IsInside : Option ℕ → Type 0
IsInside o = (c : ℕ) × (o ≡ Some c) × ((c == 10) ≡ false)

inside_more : (text : List ℕ) (from p : ℕ) → from ≤ p → p < length text → (get_or text p 0 == 10) ≡ false
    → IsInside (last_other (gap text from p)) → IsInside (last_other (gap text from (p + 1)))
inside_more text from p up low e (c, is, other) =
    go (is_space (get_or text p 0)) (gap_more text from p (get_or text p 0) up low refl)
  where
    go : (b : Bool) → last_other (gap text from (p + 1))
        ≡ cond (not b) (Some (get_or text p 0)) (last_other (gap text from p))
        → IsInside (last_other (gap text from (p + 1)))
    go true f = (c, f ∙ is, other)
    go false f = (get_or text p 0, f, e)

-- behind a `#` and bytes of its line
inside_line : (text : List ℕ) (from q : ℕ) → from ≤ q → get_or text q 0 ≡ 35 → (i : ℕ) → q + i < length text
    → ((j : ℕ) → j < i → (get_or text (q + 1 + j) 0 == 10) ≡ false)
    → IsInside (last_other (gap text from (q + i + 1)))
inside_line text from q up e zero low line =
    let here : q + 0 ≡ q = omega arith in
    let is = gap_more text from (q + 0) 35 (omega (arith, up)) low (ap (λ p. get_or text p 0) here ∙ e) in
    (35, is, refl)
inside_line text from q up e (suc i) low line =
    let here : q + suc i ≡ q + i + 1 = omega arith in
    let there : q + 1 + i ≡ q + suc i = omega arith in
    inside_more text from (q + suc i) (omega (arith, up)) low
    (ap (λ p. get_or text p 0 == 10) (sym there) ∙ line i (omega arith))
    (subst (λ p. IsInside (last_other (gap text from p))) (sym here)
    (inside_line text from q up e i (omega (arith, low)) (λ j l. line j (omega (arith, l)))))

pub inside_stands : (text : List ℕ) (from q : ℕ) → from ≤ q → get_or text q 0 ≡ 35 → (i : ℕ) → q + i < length text
    → ((j : ℕ) → j < i → (get_or text (q + 1 + j) 0 == 10) ≡ false) → (n : ℕ)
    → standing_by n (last_other (gap text from (q + i + 1))) ≡ stands_inside
inside_stands text from q up e i low line n =
    let (c, is, other) = inside_line text from q up e i low line in
    ap (standing_by n) is ∙ ap (λ b. cond b (stands_so false) stands_inside) other
