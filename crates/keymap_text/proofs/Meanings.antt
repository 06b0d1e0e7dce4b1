-- Each row of the table of names says what its name means.
use Rattle.keymap_text.proofs.Common.{rules, ◌≡◌, ℕ, ◌+◌, ◌*◌, ◌<◌, true, false, ◌&&◌, List, [], ◌∷◌, length, take}
use Rattle.keymap_text.proofs.Common.{drop, get_or, map, fold, All, refl, sym, ◌∙◌, ap, ap₂, arith, nat_lt, Option}
use Rattle.keymap_text.proofs.Common.{Some, None, IfSome, codes, ◌≤◌, take_all, get_or-map, take-map}
use Rattle.keymap_text.proofs.Common.{drop-map, length-map, lt-ltb, nat_tests, list_all, to_ascii_lowercase}
use Rattle.keymap_text.proofs.Common.{digit_value, named_of, Number, Act, Name, Meaning, NAMES, pack, unpacked}
use Rattle.keymap_text.proofs.Common.{KeyMeans, IsTrueName, function_name, screen_name, name_key, ArePlaced, along}
use Rattle.keymap_text.proofs.Common.{leading, is_word, meaning, sense_meaning, letters}
use Rattle.keymap_text.proofs.Common.{meaning_by_names, named, table, digits_of, number, number_after, is_digit}
use Rattle.keymap_text.proofs.Common.{of_action, ltb-true, subst, length-take-le}
use Rattle.std.proofs.lemmas.Str.Ascii.{lowercase-lowercase}
use Rattle.keymap_core.specs.declared.named.Named.{Named}
use Rattle.keymap_text.specs.Inner.Keys.{place_of}
use Rattle.keymap_text.specs.declared.names.TheConstants.{PLACES}
use Rattle.keymap_text.proofs.Keys.{unpack_packed}
use Rattle.keymap_text.proofs.Leading.{leading_pass, leading_fail, leading_le, leading_part}
use Rattle.keymap_text.proofs.Numbers.{digits_good, none_of}
use Rattle.keymap_core.specs.declared.action.Action.TheVariants as a

-- case has no effect
idem : (w : List ℕ) → map to_ascii_lowercase (map to_ascii_lowercase w) ≡ map to_ascii_lowercase w
idem [] = refl
idem (c ∷ w) = ap₂ (λ (x : ℕ) (xs : List ℕ). x ∷ xs) (lowercase-lowercase c) (idem w)

-- a digit has no case
digit_lower : (c : ℕ) → digit_value (to_ascii_lowercase c) ≡ digit_value c
digit_lower c = grind (arith, nat_tests)

-- case changes nothing of whether bytes are digits
all_lower : (base : ℕ) (w : List ℕ) → list_all (is_digit base) (map to_ascii_lowercase w) ≡ list_all (is_digit base) w
all_lower base [] = refl
all_lower base (c ∷ w) = ap₂ (λ d b. nat_lt d base && b) (digit_lower c) (all_lower base w)

-- case changes nothing of a number
number_lower : (base n : ℕ) (w : List ℕ)
    → fold (λ n c. n * base + digit_value c) n (map to_ascii_lowercase w) ≡ fold (λ n c. n * base + digit_value c) n w
number_lower base n [] = refl
number_lower base n (c ∷ w) =
    grind (arith, digit_lower, (number_lower base (n * base + digit_value (to_ascii_lowercase c)) w))

-- case changes nothing of what digits spell
digits_lower : (base : ℕ) (w : List ℕ) → digits_of base (map to_ascii_lowercase w) ≡ digits_of base w
unfolding digits_of
digits_lower base w = rw (length-map, all_lower base w, number_lower base 0 w) refl

-- case changes nothing of the number after a prefix
after_lower : (prefix : List ℕ) (base : ℕ) (w : List ℕ)
    → number_after prefix base (map to_ascii_lowercase w) ≡ number_after prefix base w
after_lower prefix base w = grind (arith, digits_lower, drop-map, idem, length-map, take-map)

-- case changes nothing of what a name means
named_lower : (t : List (List ℕ × Meaning)) (w : List ℕ) → named t (map to_ascii_lowercase w) ≡ named t w
unfolding named
named_lower [] w = refl
named_lower (e ∷ t) w = grind (arith, idem, (named_lower t w))

-- the first of the meanings that a word may have
pick : Option ℕ → Option ℕ → Option Meaning → Named → Meaning
pick a b c d =
    elim a [
      | Some n ↦ Number n
      | None ↦ elim b [ Some n ↦ Number n | None ↦ elim c [ Some m ↦ m | None ↦ of_action d ] ]
    ]

-- which is the meaning of a word
meaning_picks : (w : List ℕ) → meaning w ≡ pick (digits_of 10 w) (number_after (codes "0x") 16 w) (named table w)
    (named_of w)
unfolding meaning pick
meaning_picks w = refl

-- by equal parts
same_pick : (a a' b b' : Option ℕ) (c c' : Option Meaning) (d d' : Named) → a ≡ a' → b ≡ b' → c ≡ c' → d ≡ d'
    → pick a b c d ≡ pick a' b' c' d'
same_pick a a' b b' c c' d d' e f g h = cc

-- the meaning of a word has no case
pub meaning_lower : (w : List ℕ) → meaning (map to_ascii_lowercase w) ≡ meaning w
meaning_lower w = search (rules, after_lower, digits_lower, idem, meaning_picks, named_lower, same_pick)

-- numbers
pub decimal_meaning : (w : List ℕ) (n : ℕ) → Some n ≡ digits_of 10 w → Number n ≡ meaning w
unfolding pick
decimal_meaning w n h = grind (arith, meaning_picks)

-- a word with 0x is no decimal number
not_decimal : (b : ℕ) (w : List ℕ) → nat_lt (digit_value b) 10 ≡ false → digits_of 10 (48 ∷ b ∷ w) ≡ None
unfolding digits_of
not_decimal b w h = rw (h, digits_of) (none_of _ _)

-- the digits behind 0x
behind_prefix : (b : ℕ) (w : List ℕ) → to_ascii_lowercase b ≡ 120
    → number_after (codes "0x") 16 (48 ∷ b ∷ w) ≡ digits_of 16 w
behind_prefix b w l = grind arith

-- the word of 0x and digits means their number
pub hexadecimal : (b n : ℕ) (w : List ℕ) → nat_lt (digit_value b) 10 ≡ false → to_ascii_lowercase b ≡ 120
    → Some n ≡ digits_of 16 w → Number n ≡ meaning (48 ∷ b ∷ w)
unfolding pick
hexadecimal b n w d l h = grind (arith, behind_prefix, meaning_picks, not_decimal)

-- digits after 0x mean their number
pub hexadecimal_meaning : (w : List ℕ) (b n : ℕ) → nat_lt (digit_value b) 10 ≡ false → to_ascii_lowercase b ≡ 120
    → 2 < length w → get_or w 0 0 ≡ 48 → get_or w 1 0 ≡ b → Some n ≡ digits_of 16 (drop 2 w) → Number n ≡ meaning w
hexadecimal_meaning w b n d l s x y h = grind (arith, hexadecimal)

-- a digit is a byte of a word
digit_in_word : (c : ℕ) → digit_value c < 16 → is_word c ≡ true
digit_in_word c h = grind (arith, nat_tests)

-- a word of 0x and four digits in front, and what it means
pub four_digits : (rest : List ℕ) → 6 < length rest → get_or rest 0 0 ≡ 48 → get_or rest 1 0 ≡ 120
    → digit_value (get_or rest 2 0) < 16 → digit_value (get_or rest 3 0) < 16 → digit_value (get_or rest 4 0) < 16
    → digit_value (get_or rest 5 0) < 16 → is_word (get_or rest 6 0) ≡ false → (leading is_word rest ≡ 6)
    × (Number (((digit_value (get_or rest 2 0) * 16 + digit_value (get_or rest 3 0)) * 16
    + digit_value (get_or rest 4 0)) * 16 + digit_value (get_or rest 5 0)) ≡ meaning (take 6 rest))
four_digits (n ∷ x ∷ a ∷ b ∷ c ∷ d ∷ e ∷ z) l o t p q r s h =
    let ends = leading_fail is_word e z h in
    let fourth = leading_pass is_word d (e ∷ z) (digit_in_word d s) in
    let third = leading_pass is_word c (d ∷ e ∷ z) (digit_in_word c r) in
    let second = leading_pass is_word b (c ∷ d ∷ e ∷ z) (digit_in_word b q) in
    let first = leading_pass is_word a (b ∷ c ∷ d ∷ e ∷ z) (digit_in_word a p) in
    let letter = leading_pass is_word x (a ∷ b ∷ c ∷ d ∷ e ∷ z) (ap is_word t) in
    let zero_digit = leading_pass is_word n (x ∷ a ∷ b ∷ c ∷ d ∷ e ∷ z) (ap is_word o) in
    let sum : ((digit_value a * 16 + digit_value b) * 16 + digit_value c) * 16 + digit_value d
    ≡ number 16 (a ∷ b ∷ c ∷ d ∷ []) = omega arith in (
      omega (arith, ends, fourth, third, second, first, letter, zero_digit),
      ap Number sum ∙ hexadecimal_meaning (n ∷ x ∷ a ∷ b ∷ c ∷ d ∷ []) 120 _ refl refl (omega arith) o t
          (sym (digits_good 16 (a ∷ b ∷ c ∷ d ∷ []) (omega arith)
          (rw (lt-ltb _ _ p, lt-ltb _ _ q, lt-ltb _ _ r, lt-ltb _ _ s) refl))),
    )
four_digits _ l o t p q r s h = absurd (omega (arith, l))

-- a decimal digit is one of sixteen
ten_of_sixteen : (c : ℕ) → digit_value c < 10 → digit_value c < 16
ten_of_sixteen c h = omega (arith, h)

-- a word of three digits in front, and what it means
pub three_digits : (rest : List ℕ) → 3 < length rest → digit_value (get_or rest 0 0) < 10
    → digit_value (get_or rest 1 0) < 10 → digit_value (get_or rest 2 0) < 10 → is_word (get_or rest 3 0) ≡ false
    → (leading is_word rest ≡ 3) × (Number ((digit_value (get_or rest 0 0) * 10 + digit_value (get_or rest 1 0)) * 10
    + digit_value (get_or rest 2 0)) ≡ meaning (take 3 rest))
three_digits (a ∷ b ∷ c ∷ e ∷ z) l p q r h =
    let ends = leading_fail is_word e z h in
    let third = leading_pass is_word c (e ∷ z) (digit_in_word c (ten_of_sixteen c r)) in
    let second = leading_pass is_word b (c ∷ e ∷ z) (digit_in_word b (ten_of_sixteen b q)) in
    let first = leading_pass is_word a (b ∷ c ∷ e ∷ z) (digit_in_word a (ten_of_sixteen a p)) in
    let sum : (digit_value a * 10 + digit_value b) * 10 + digit_value c ≡ number 10 (a ∷ b ∷ c ∷ []) = omega arith in (
      omega (arith, ends, third, second, first),
      ap Number sum ∙ decimal_meaning (a ∷ b ∷ c ∷ []) _
          (sym (digits_good 10 (a ∷ b ∷ c ∷ []) (omega arith)
          (rw (lt-ltb _ _ p, lt-ltb _ _ q, lt-ltb _ _ r) refl))),
    )
three_digits _ l p q r h = absurd (omega (arith, l))

-- a name is true if what its key spells means so
means_of : (key : ℕ) (m : Meaning) → m ≡ meaning (unpacked 8 key) → KeyMeans key m
means_of key m e = record {
  means = λ w short word h.
      e ∙ ap meaning (ap (unpacked 8) (sym h) ∙ unpack_packed 8 w short word) ∙ meaning_lower w;
}

-- two readings of the table agree at each row
at_name : {X : Type 0} (f g : Name → X) → map f NAMES ≡ map g NAMES → (k : ℕ) (d : Name) → k < length NAMES
    → f (get_or NAMES k d) ≡ g (get_or NAMES k d)
at_name f g h k d l =
    sym (get_or-map f NAMES k d (f d) l) ∙ ap (λ xs. get_or xs k (f d)) h ∙ get_or-map g NAMES k d (f d) l

-- each row of the table of names says what its name means, by computation
pub names_true : All IsTrueName NAMES
unfolding meaning digits_of named
names_true =
    λ k d h. means_of (name_key (get_or NAMES k d)) (sense_meaning (get_or NAMES k d).1)
    (at_name (λ r. sense_meaning r.1) (λ r. meaning (unpacked 8 (name_key r))) refl k d h)

-- no name hides another, by computation
pub names_placed : ArePlaced NAMES
names_placed i d h = along (λ i. place_of (name_key (get_or NAMES i d))) (λ i. i) 0 84 refl i (omega arith) h

-- each place is that of a name, by computation
pub places_inside : (i : ℕ) → i < 256 → get_or PLACES i 0 < length NAMES
places_inside i h = ltb-true _ _ (along (λ i. nat_lt (get_or PLACES i 0) 84) (λ _. true) 0 256 refl i (omega arith) h)

-- the key of a function key's name means that key, by computation
pub function_means : (n key : ℕ) → 0 < n → n ≤ 96 → key ≡ function_name n → KeyMeans key (Act (a.Function n))
unfolding meaning digits_of named
function_means n key l h e =
    subst (λ key. KeyMeans key (Act (a.Function n))) (sym e) (means_of (function_name n) (Act (a.Function n))
    (along (λ n. Act (a.Function n)) (λ n. meaning (unpacked 8 (function_name n))) 1 96 refl n l (omega (arith, h))))

-- the key of a screen's name means that screen, by computation
pub screen_means : (n key : ℕ) → 0 < n → n ≤ 16 → key ≡ screen_name n → KeyMeans key (Act (a.Screen n))
unfolding meaning digits_of named
screen_means n key l h e =
    subst (λ key. KeyMeans key (Act (a.Screen n))) (sym e) (means_of (screen_name n) (Act (a.Screen n))
    (along (λ n. Act (a.Screen n)) (λ n. meaning (unpacked 8 (screen_name n))) 1 16 refl n l (omega (arith, h))))

-- what the code found by the key of the word in front is its meaning
pub some_means : (r : Option Meaning) (key n : ℕ) (w : List ℕ) → IfSome r (KeyMeans key) → n ≤ 8
    → n ≤ leading is_word w → key ≡ pack 8 (map to_ascii_lowercase (take n w))
    → IfSome r (λ m. m ≡ meaning (take n w))
some_means None key n w h s l e = tt
some_means (Some m) key n w h s l e =
    let size = length-take-le n w (omega (arith, l, leading_le is_word w)) in
    h.means (take n w) (omega (arith, size, s)) (leading_part is_word n w l) (sym e)

-- the names of characters and the lock letters stand first, in the order of the table
sense_entry : Name → List ℕ × Meaning
sense_entry name = (letters name.0, sense_meaning name.1)

-- rows as the code has them, and as the definitions do
look_named : (names : List Name) (w : List ℕ) → meaning_by_names names w ≡ named (map sense_entry names) w
unfolding meaning_by_names named sense_entry
look_named [] w = refl
look_named (name ∷ names) w = grind (arith, (look_named names w))

-- the first forty rows are the table of characters and lock letters, by computation
pub look_in_table : (w : List ℕ) → meaning_by_names (take 40 NAMES) w ≡ named table w
unfolding sense_entry
look_in_table w = look_named (take 40 NAMES) w

-- a meaning found for all bytes of a word is the word's
pub whole_means : (r : Option Meaning) (w : List ℕ) → IfSome r (λ m. m ≡ meaning (take (length w) w))
    → IfSome r (λ m. m ≡ meaning w)
whole_means r w h = grind (arith, take_all)
