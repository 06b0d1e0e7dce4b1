-- The number behind the letters of a name.
use Rattle.keymap_core.proofs.Common.{◌≡◌, ℕ, ◌<◌, min, Bool, true, false, cond, List, [], ◌∷◌, length, take, drop, map}
use Rattle.keymap_core.proofs.Common.{refl, ◌∙◌, ap, ap₂, arith, ◌&&◌, Option, Some, None, list_all, option_map, rules}
use Rattle.keymap_core.proofs.Common.{bytes_eq, to_ascii_lowercase, is_ascii_digit, and_parts, nat_tests, are_digits}
use Rattle.keymap_core.proofs.Common.{digits_value, number_behind}
use Rattle.std.proofs.Common.{length-take}
use Rattle.std.proofs.lemmas.List.{take-map, drop-map, length-map}
use Rattle.std.proofs.lemmas.Slice.Eq.{bytes_eq-Decides}

-- a word in lower case
abbrev lower : List ℕ → List ℕ
lower = map to_ascii_lowercase

-- a digit has no case
lower-digit : (c : ℕ) → is_ascii_digit (to_ascii_lowercase c) ≡ is_ascii_digit c
lower-digit c = grind (arith, nat_tests)

-- a digit is its own lower case
digit-lower : (c : ℕ) → is_ascii_digit c ≡ true → to_ascii_lowercase c ≡ c
digit-lower c h = grind (arith, nat_tests)

-- lower case makes no digit and loses none
lower-digits : (xs : List ℕ) → list_all is_ascii_digit (lower xs) ≡ list_all is_ascii_digit xs
lower-digits [] = refl
lower-digits (x ∷ xs) = ap₂ (λ a b. a && b) (lower-digit x) (lower-digits xs)

-- digits are their own lower case
digits-lower : (xs : List ℕ) → list_all is_ascii_digit xs ≡ true → lower xs ≡ xs
digits-lower [] h = refl
digits-lower (x ∷ xs) h =
    let parts = and_parts (is_ascii_digit x) (list_all is_ascii_digit xs) h in
    ap₂ (λ c cs. c ∷ cs) (digit-lower x parts.0) (digits-lower xs parts.1)

-- what the digits spell, if they are digits
abbrev spelled : List ℕ → Option ℕ
spelled digits = cond (are_digits digits) (Some (digits_value digits)) None

-- `b` tells whether they are digits
spelled_at : (b : Bool) (xs : List ℕ) → list_all is_ascii_digit xs ≡ b → spelled (lower xs) ≡ spelled xs
spelled_at true xs h = ap spelled (digits-lower xs h)
spelled_at false xs h = search (rules, lower-digits)

-- lower case spells the same number
pub spelled-lower : (xs : List ℕ) → spelled (lower xs) ≡ spelled xs
spelled-lower xs = spelled_at (list_all is_ascii_digit xs) xs refl

-- the number, once the letters are known to stand in front or not
behind_at : (b : Bool) (letters word : List ℕ) → bytes_eq (take (length letters) (lower word)) letters ≡ b
    → number_behind letters (lower word) ≡ cond b (spelled (drop (length letters) word)) None
behind_at true letters word h =
    rw (h, drop-map to_ascii_lowercase (length letters) word) (spelled-lower (drop (length letters) word))
behind_at false letters word h = rw h refl

-- behind the letters, in either case, stands the number that the rest of the word spells
pub number-behind : (letters word : List ℕ) → bytes_eq (lower (take (length letters) word)) letters ≡ true
    → number_behind letters (lower word) ≡ spelled (drop (length letters) word)
number-behind letters word h =
    behind_at true letters word (ap (λ xs. bytes_eq xs letters) (take-map to_ascii_lowercase (length letters) word) ∙ h)

-- a word that begins with other letters has no number behind them
pub none-behind : (letters word : List ℕ) → bytes_eq (lower (take (length letters) word)) letters ≡ false
    → number_behind letters (lower word) ≡ None
none-behind letters word h = search (rules, behind_at, take-map)

-- a word shorter than the letters
pub none-shorter : (letters word : List ℕ) → length word < length letters → number_behind letters (lower word) ≡ None
none-shorter letters word h = search (rules, behind_at, bytes_eq-Decides, length-take, length-map)

-- a number that is there or not, cut at 255
pub cut : (b : Bool) (n : ℕ) → option_map (λ n. min n 255) (cond b (Some n) None) ≡ cond b (Some (min n 255)) None
cut true n = refl
cut false n = refl
