-- The printed text of a character, and of an action, is one token, which is that character or action.
use Rattle.keymap_text.proofs.Common.{lt-ltb, le-ltb, ◌≡◌, ◌⊎◌, inl, inr, cases_lt, character, ℕ, suc, ◌+◌, ◌*◌, ◌/◌}
use Rattle.keymap_text.proofs.Common.{◌%◌, ◌<◌, ◌≤◌, ◌==◌, ◌&&◌, Bool, true}
use Rattle.keymap_text.proofs.Common.{cond, List, [], ◌∷◌, length, map, fold, refl, sym, ◌∙◌, ap, subst, arith, Ok, Err}
use Rattle.keymap_text.proofs.Common.{Some, ne_eqb, nat_lt, nat_le, codes, slice_index_or, list_all, digit_char, rules}
use Rattle.keymap_text.proofs.Common.{digit_value, nat_tests, Value, Meaning, Number, Char, leading, is_word, meaning}
use Rattle.keymap_text.proofs.Common.{digits_of, is_digit, named, control_names, character_text, along}
use Rattle.keymap_core.specs.CodePoints.{code_digits}
use lib.Utf8.{scalar, scalar_cases}
use Rattle.keymap_text.proofs.Common.{Found, Word, front_of, word}
use Rattle.keymap_text.proofs.InFront.{front_word, short_word}
use Rattle.keymap_text.proofs.Leading.{leading_pass, leading_tail}
use Rattle.keymap_text.proofs.Numbers.{digits_good}
use Rattle.keymap_text.proofs.Meanings.{hexadecimal}
use Rattle.keymap_text.proofs.Lexed.{Lexes, NoWord, lexes_word, lexes_quoted}
use Rattle.keymap_text.proofs.PrintedLines.{PrintsCharacter}
use Rattle.keymap_text.specs.declared.fault.TextFaultKind.TheVariants as faults

-- a text of one word
abbrev pub is_one_word : List ℕ → Bool
is_one_word w = nat_lt 0 (length w) && (nat_le (length w) 32 && (leading is_word w == length w))

-- a word of 1 to 32 bytes is one token with its meaning
pub lexes_as : (w : List ℕ) (m : Meaning) → is_one_word w ≡ true → meaning w ≡ m → Lexes NoWord w (Value m ∷ [])
lexes_as w m h e = grind (arith, lexes_word)

-- a text of one word has so many letters and digits in front
word_leads : (w : List ℕ) → is_one_word w ≡ true → (length w ≤ 32) × (leading is_word w ≡ length w)
word_leads w h = grind (arith, nat_tests)

-- so it is found as a word
pub found_word : (a : ℕ) (w : List ℕ) → is_one_word (a ∷ w) ≡ true → front_of a w ≡ Found Word (length w)
found_word a w h =
    let l = word_leads (a ∷ w) h in
    let t = leading_tail is_word a w l.1 in
    front_word a w t.0 ∙ ap word t.1 ∙ short_word (length w) (omega (arith, l.0))

-- a control character is printed as its name
control_text : (c : ℕ) → c < 32 → character_text c ≡ slice_index_or control_names c []
unfolding character_text
control_text c h = rw (lt-ltb c 32 h, ne_eqb c 127 (omega (arith, h))) refl

-- A character is printed by one word, which means it.
pub record IsNamed (c : ℕ) : Type 0 where
  pub means : Meaning
  pub word : is_one_word (character_text c) ≡ true
  pub says : meaning (character_text c) ≡ means
  pub reads : character (Value means) ≡ Ok c

-- so it prints
prints_named : (c : ℕ) → IsNamed c → PrintsCharacter c
prints_named c h =
    record { token = Value h.means; lexes = lexes_as (character_text c) h.means h.word h.says; reads = h.reads }

-- the name of a control character, by computation
control_named : (c : ℕ) → c < 32 → IsNamed c
unfolding meaning digits_of named
control_named c h = record {
  means = Char c;
  word = ap is_one_word (control_text c h)
      ∙ along (λ c. is_one_word (slice_index_or control_names c [])) (λ c. true) 0 32 refl c (omega arith) h;
  says = ap meaning (control_text c h)
      ∙ along (λ c. meaning (slice_index_or control_names c [])) (λ c. Char c) 0 32 refl c (omega arith) h;
  reads = refl;
}

-- the character 127 is printed as its name
delete_named : IsNamed 127
unfolding meaning digits_of named character_text
delete_named = record { means = Char 127; word = refl; says = refl; reads = refl }

-- a character between apostrophes
pub quoted_text : (c : ℕ) → 31 < c → c < 127 → character_text c ≡ 39 ∷ c ∷ 39 ∷ []
unfolding character_text
quoted_text c h k = rw (le-ltb c 32 (omega (arith, h)), ne_eqb c 127 (omega (arith, k)), lt-ltb c 127 k) refl

-- a printable ASCII character is printed between apostrophes
prints_quoted : (c : ℕ) → 31 < c → c < 127 → PrintsCharacter c
prints_quoted c h k =
    record { token = Value (Char c); lexes = rw (quoted_text c h k) (lexes_quoted c h k); reads = refl }

-- a hexadecimal digit has its value
hex_value : (d : ℕ) → d < 16 → digit_value (digit_char d) ≡ d
hex_value d h = grind (arith, nat_tests)

-- a hexadecimal digit passes the test of digits
hex_test : (d : ℕ) → d < 16 → is_digit 16 (digit_char d) ≡ true
hex_test d h = rw (hex_value d h) (lt-ltb d 16 h)

abbrev pub AreSmall : List ℕ → Type 0
AreSmall [] = Unit {0}
AreSmall (d ∷ ds) = (d < 16) × AreSmall ds

abbrev pub horner : ℕ → List ℕ → ℕ
horner n [] = n
horner n (d ∷ ds) = horner (n * 16 + d) ds

-- hexadecimal digits pass the test of digits
hex_tests : (ds : List ℕ) → AreSmall ds → list_all (is_digit 16) (map digit_char ds) ≡ true
hex_tests [] h = refl
hex_tests (d ∷ ds) (h, k) = ap (λ b. b && list_all (is_digit 16) (map digit_char ds)) (hex_test d h) ∙ hex_tests ds k

-- digits spell the number of their values
hex_number : (n : ℕ) (ds : List ℕ) → AreSmall ds
    → fold (λ n c. n * 16 + digit_value c) n (map digit_char ds) ≡ horner n ds
hex_number n [] h = refl
hex_number n (d ∷ ds) (h, k) = grind (arith, (hex_number (n * 16 + d) ds k))

-- digits are one word
hex_leads : (ds : List ℕ) → AreSmall ds → leading is_word (map digit_char ds) ≡ length ds
hex_leads [] h = refl
hex_leads (d ∷ ds) (h, k) = grind (arith, leading_pass, (hex_leads ds k))

-- a digit takes one byte
hex_length : (ds : List ℕ) → length (map digit_char ds) ≡ length ds
hex_length [] = refl
hex_length (d ∷ ds) = ap suc (hex_length ds)

-- digits spell a number
hex_digits : (ds : List ℕ) → 0 < length ds → AreSmall ds → digits_of 16 (map digit_char ds) ≡ Some (horner 0 ds)
hex_digits ds h k =
    digits_good 16 (map digit_char ds) (omega (arith, hex_length ds)) (hex_tests ds k) ∙ ap Some (hex_number 0 ds k)

-- digits after 0x are one word, which is their number
hex_word : (ds : List ℕ) → 0 < length ds → length ds ≤ 30 → AreSmall ds
    → is_one_word (48 ∷ 120 ∷ map digit_char ds) ≡ true
hex_word ds z l h = grind (arith, nat_tests, hex_leads, hex_length)

hex_meaning : (c : ℕ) (ds : List ℕ) → 0 < length ds → AreSmall ds → horner 0 ds ≡ c
    → meaning (48 ∷ 120 ∷ map digit_char ds) ≡ Number c
hex_meaning c ds z h e =
    sym (hexadecimal 120 c (map digit_char ds) refl refl (sym (hex_digits ds z h ∙ ap Some e)))

-- a character above 127 is printed as a number
hex_text : (c : ℕ) → 127 < c → character_text c ≡ 48 ∷ 120 ∷ code_digits c
unfolding character_text
hex_text c h = grind arith

-- the digits of a number, from the fourth, fifth or sixth on
abbrev pub four : ℕ → List ℕ
four c = c / 4096 % 16 ∷ c / 256 % 16 ∷ c / 16 % 16 ∷ c / 1 % 16 ∷ []

-- the fifth digit from the right
digit_65536 : (c : ℕ) → c / 1048576 * 16 + c / 65536 % 16 ≡ c / 65536
digit_65536 c = omega arith

-- four digits behind a number
four_of : (c n : ℕ) → n ≡ c / 65536 → horner n (four c) ≡ c
four_of c n e = search rules

-- a number of four digits is printed with them
hex_four : (c : ℕ) → c < 65536 → code_digits c ≡ map digit_char (four c)
unfolding code_digits
hex_four c h = rw (lt-ltb c 65536 h) refl

-- five digits
hex_five : (c : ℕ) → 65536 ≤ c → c < 1048576 → code_digits c ≡ map digit_char (c / 65536 % 16 ∷ four c)
unfolding code_digits
hex_five c h k = rw (le-ltb c 65536 h, lt-ltb c 1048576 k) refl

-- six digits
hex_six : (c : ℕ) → 1048576 ≤ c → code_digits c ≡ map digit_char (c / 1048576 % 16 ∷ c / 65536 % 16 ∷ four c)
unfolding code_digits
hex_six c h = rw (le-ltb c 65536 (omega (arith, h)), le-ltb c 1048576 h) refl

-- a character that is printed in digits
digits_named : (c : ℕ) (ds : List ℕ) → 127 < c → scalar c ≡ true → code_digits c ≡ map digit_char ds → 0 < length ds
    → length ds ≤ 30 → AreSmall ds → horner 0 ds ≡ c → IsNamed c
digits_named c ds h s e z l k n =
    let text : character_text c ≡ 48 ∷ 120 ∷ map digit_char ds = hex_text c h ∙ ap (λ w. 48 ∷ 120 ∷ w) e in
    record {
      means = Number c;
      word = ap is_one_word text ∙ hex_word ds z l k;
      says = ap meaning text ∙ hex_meaning c ds z k n;
      reads = ap (λ b. cond b (Ok c) (Err faults.BadChar)) s;
    }

-- a number of four digits
named_four : (c : ℕ) → 127 < c → c < 65536 → scalar c ≡ true → IsNamed c
named_four c h k s =
    digits_named c (four c) h s (hex_four c k) (omega arith) (omega arith) (omega arith) (four_of c 0 (omega arith))

-- a number of five digits
named_five : (c : ℕ) → 65536 ≤ c → c < 1048576 → scalar c ≡ true → IsNamed c
named_five c h k s =
    digits_named c (c / 65536 % 16 ∷ four c) (omega arith) s (hex_five c h k) (omega arith) (omega arith)
    (omega arith) (four_of c (0 * 16 + c / 65536 % 16) (omega (arith, digit_65536 c)))

-- a number of six digits
named_six : (c : ℕ) → 1048576 ≤ c → c < 16777216 → scalar c ≡ true → IsNamed c
named_six c h k s =
    digits_named c (c / 1048576 % 16 ∷ c / 65536 % 16 ∷ four c) (omega arith) s (hex_six c h) (omega arith)
    (omega arith) (omega arith) (four_of c ((0 * 16 + c / 1048576 % 16) * 16 + c / 65536 % 16)
    (let top : c / 1048576 % 16 ≡ c / 1048576 = omega arith in omega (arith, digit_65536 c)))

ruleset named_rules = (control_named, delete_named, named_four, named_five, named_six)

-- a character is printed between apostrophes exactly where it is one of ASCII and no control
pub named_character : (c : ℕ) → scalar c ≡ true → (c < 32) ⊎ (126 < c) → IsNamed c
named_character c s h = grind (arith, named_rules, scalar_cases)

-- each character prints
pub prints_character : (c : ℕ) → scalar c ≡ true → PrintsCharacter c
prints_character c s = elim (cases_lt c 32) [
  | inl h ↦ prints_named c (named_character c s (inl h))
  | inr h ↦ elim (cases_lt 126 c) [
    | inl k ↦ prints_named c (named_character c s (inr k))
    | inr k ↦ prints_quoted c (omega (arith, h)) (omega (arith, k))
  ]
]
