-- The digits of numbers, each pushed behind the others.
use Rattle.play_core.proofs.Common.{◌≡◌, ℕ, ◌+◌, ◌/◌, ◌%◌, ◌<◌, ◌≤◌, List, [], ◌∷◌, ◌++◌, length, ap, sym, ◌∙◌, rules}
use Rattle.play_core.proofs.Common.{append_assoc, length-append, decimal, decimal_digit, decimal_step}
use Rattle.std.proofs.Common.{◌^◌}

-- a number below 10 is one digit
pub last_digit : (text before new : List ℕ) (n : ℕ) → n < 10 → before ≡ text → new ≡ before ++ (48 + n % 10) ∷ []
    → new ≡ text ++ decimal n
last_digit text before new n h e f = search (rules, decimal_digit)

-- a larger number is the digits of its tenth, and its last digit
pub one_more_digit : (text before new : List ℕ) (n : ℕ) → 10 ≤ n → n < 2 ^ 64 → before ≡ text ++ decimal (n / 10)
    → new ≡ before ++ (48 + n % 10) ∷ []
    → new ≡ text ++ decimal n
one_more_digit text before new n h small e f = search (rules, append_assoc, decimal_step)

-- a number below 10 has one digit
pub digits_of_one : (n : ℕ) → n < 10 → length (decimal n) ≡ 1
digits_of_one n h = ap length (decimal_digit n h)

-- a larger number has one digit more than its tenth
pub more_digits : (n : ℕ) → 10 ≤ n → n < 2 ^ 64 → length (decimal n) ≡ length (decimal (n / 10)) + 1
more_digits n h small = ap length (decimal_step n h small) ∙ length-append (decimal (n / 10)) ((48 + n % 10) ∷ [])

-- a number that has two digits, or three
two_digits : (n : ℕ) → 10 ≤ n → n < 100 → decimal n ≡ (48 + n / 10) ∷ (48 + n % 10) ∷ []
two_digits n more few = search (rules, decimal_step, decimal_digit)

three_digits : (n : ℕ) → 100 ≤ n → n < 1000
    → decimal n ≡ (48 + n / 10 / 10) ∷ (48 + n / 10 % 10) ∷ (48 + n % 10) ∷ []
three_digits n more few = search (rules, decimal_step, decimal_digit)

pub has_two : (n : ℕ) → 10 ≤ n → n < 100 → length (decimal n) ≡ 2
has_two n more few = ap length (two_digits n more few)

pub has_three : (n : ℕ) → 100 ≤ n → n < 1000 → length (decimal n) ≡ 3
has_three n more few = ap length (three_digits n more few)

pub both_digits : (text new : List ℕ) (n : ℕ) → 10 ≤ n → n < 100
    → new ≡ text ++ (48 + n / 10) ∷ (48 + n % 10) ∷ [] → new ≡ text ++ decimal n
both_digits text new n more few e = e ∙ ap (λ d. text ++ d) (sym (two_digits n more few))

pub all_three_digits : (text new : List ℕ) (n : ℕ) → 100 ≤ n → n < 1000
    → new ≡ text ++ (48 + n / 10 / 10) ∷ (48 + n / 10 % 10) ∷ (48 + n % 10) ∷ [] → new ≡ text ++ decimal n
all_three_digits text new n more few e = e ∙ ap (λ d. text ++ d) (sym (three_digits n more few))
