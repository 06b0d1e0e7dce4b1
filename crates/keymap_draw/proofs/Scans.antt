-- How parts of the picture are read: values and texts as they are, and characters with references.
use Rattle.keymap_draw.proofs.Common.{◌≡◌, ℕ, ◌==◌, Bool, true, false, List, [], ◌∷◌, ◌++◌, Option, Some, None, refl}
use Rattle.keymap_draw.proofs.Common.{and_parts, cond_both, not-true, decimal_passes, ap, sym, ◌∙◌, arith, append_assoc}
use Rattle.keymap_draw.proofs.Common.{append-nil, ◌&&◌, not, decimal, if◌then◌else◌, list_all, nat_tests, rules}
use Rattle.keymap_draw.proofs.Common.{none-some, Fact, is_inner, within, facts_of, facts_in, ReadAs, IsWithin, Element}
use Rattle.keymap_draw.proofs.Common.{last_facts, reverse}
use Rattle.std.proofs.lemmas.List.{reverse-append, reverse-reverse}
use Rattle.keymap_draw.proofs.Common.{Place, Read, State, at, saying, step, scan, is_plain, within_element, Text}
use Rattle.keymap_draw.proofs.Common.{Value, zero, suc, ◌+◌, ◌<◌, length, get_or, All, map, ◌/◌, ◌%◌, codes}
use Rattle.keymap_draw.proofs.Common.{slice_index_or, flat_map, agree_below_at, ltb-true, eqb-true, All-head}
use Rattle.keymap_draw.proofs.Common.{All-tail, code_digits, upper_digits, digit_at, escaped, is_seen, is_shown}
use Rattle.std.proofs.lemmas.Bool.{and_from}
use Rattle.keymap_draw.specs.WellFormed.{Tag, Role, element, with_characters, longer, with_begun, is_empty, in_text}
use Rattle.keymap_draw.specs.WellFormed.Role.{Holder, Lettered}
use Rattle.std.proofs.Common.{◌*◌}
use Rattle.std.specs.Char.{digit_char}
use Rattle.messages.proofs.Shared.{append_all}
use Rattle.keymap_draw.specs.Markup.{is_referred, reference}
use Rattle.keymap_draw.specs.Sheets.{ends_told}
use Rattle.keymap_draw.specs.WellFormed.Place.{Bracket, Number}

pub scan-append : (s : Option State) (a b : List ℕ) → scan s (a ++ b) ≡ scan (scan s a) b
scan-append s [] b = refl
scan-append s (c ∷ a) b = scan-append (step s c) a b

-- a part, and what is behind it
pub past : (s t : Option State) (a b : List ℕ) (r : Option State) → scan s a ≡ t → scan t b ≡ r → scan s (a ++ b) ≡ r
past s t a b r e f = scan-append s a b ∙ ap (λ o. scan o b) e ∙ f

pub both_true : {a b : Bool} → a ≡ true → b ≡ true → (a && b) ≡ true
both_true e f = and_from _ _ e f

pub first_true : {a : Bool} (b : Bool) → (a && b) ≡ true → a ≡ true
first_true b e = (and_parts _ b e).0

pub second_true : (a : Bool) {b : Bool} → (a && b) ≡ true → b ≡ true
second_true a e = (and_parts a _ e).1

-- where reading has failed it stays so
pub failed : (bs : List ℕ) → scan None bs ≡ None
failed [] = refl
failed (b ∷ bs) = failed bs

-- ---- characters as they are

-- some element has begun
abbrev pub IsInside : Read → Type 0
IsInside r = is_empty r.begun ≡ false

no_characters : (role : Role) → with_characters role [] ≡ role
no_characters Holder = refl
no_characters (Lettered tag said) = ap (λ cs. Lettered tag cs) (append-nil said)

more_characters : (role : Role) (a b : List ℕ)
    → with_characters (with_characters role a) b ≡ with_characters role (a ++ b)
more_characters Holder a b = refl
more_characters (Lettered tag said) a b = ap (λ cs. Lettered tag cs) (append_assoc said a b)

longer_none : (begun : List Element) → longer begun [] ≡ begun
longer_none [] = refl
longer_none (e ∷ begun) = ap (λ r. element e.name r ∷ begun) (no_characters e.role)

longer_more : (begun : List Element) (a b : List ℕ) → longer (longer begun a) b ≡ longer begun (a ++ b)
longer_more [] a b = refl
longer_more (e ∷ begun) a b = ap (λ r. element e.name r ∷ begun) (more_characters e.role a b)

pub saying_none : (r : Read) → saying [] r ≡ r
saying_none r = ap (λ begun. with_begun begun r) (longer_none r.begun)

pub saying_more : (r : Read) (a b : List ℕ) → saying b (saying a r) ≡ saying (a ++ b) r
saying_more r a b = ap (λ begun. with_begun begun r) (longer_more r.begun a b)

longer_empty : (begun : List Element) (cs : List ℕ) → is_empty (longer begun cs) ≡ is_empty begun
longer_empty [] cs = refl
longer_empty (e ∷ begun) cs = refl

pub still_inside : (r : Read) (cs : List ℕ) → IsInside r → IsInside (saying cs r)
still_inside r cs h = longer_empty r.begun cs ∙ h

pub was_inside : (r : Read) (cs : List ℕ) → IsInside (saying cs r) → IsInside r
was_inside r cs h = sym (longer_empty r.begun cs) ∙ h

pub inside_is : (p : Place) (r : Read) → IsInside r → within_element p r ≡ Some (at p r)
inside_is p r h = ap (λ b. if b then None else Some (at p r)) h

pub inside_from : (p : Place) (r : Read) (q : State) → within_element p r ≡ Some q
    → IsInside r × (Some (at p r) ≡ Some q)
inside_from p r q e = search (rules, none-some)

value_step : (tag : Tag) (name value : List ℕ) (r : Read) (c : ℕ) → is_inner c ≡ true
    → step (Some (at (Value tag name value) r)) c ≡ Some (at (Value tag name (value ++ c ∷ [])) r)
value_step tag name value r c h = search (rules, and_parts, not-true)

pub value_scan : (tag : Tag) (name value : List ℕ) (r : Read) (bs : List ℕ) → list_all is_inner bs ≡ true
    → scan (Some (at (Value tag name value) r)) bs ≡ Some (at (Value tag name (value ++ bs)) r)
value_scan tag name value r [] h = ap (λ v. Some (at (Value tag name v) r)) (sym (append-nil value))
value_scan tag name value r (c ∷ bs) h =
    ap (λ o. scan o bs) (value_step tag name value r c (first_true _ h))
    ∙ value_scan tag name (value ++ c ∷ []) r bs (second_true _ h)
    ∙ ap (λ v. Some (at (Value tag name v) r)) (append_assoc value (c ∷ []) bs)

-- what a text may have as it is, but for brackets
abbrev pub is_textual : ℕ → Bool
is_textual c = is_plain c && not (c == 60) && not (c == 38) && not (c == 93)

pub textual_step : (r : Read) (c : ℕ) → IsInside r → is_textual c ≡ true
    → step (Some (at Text r)) c ≡ Some (at Text (saying (c ∷ []) r))
textual_step r c i e = search (rules, and_parts, not-true, cond_both, inside_is, still_inside)

inner_textual : (c : ℕ) → is_inner c ≡ true → is_textual c ≡ true
inner_textual c h = grind (arith, nat_tests)

pub text_scan : (r : Read) (bs : List ℕ) → IsInside r → list_all is_inner bs ≡ true
    → scan (Some (at Text r)) bs ≡ Some (at Text (saying bs r))
text_scan r [] i h = ap (λ s. Some (at Text s)) (sym (saying_none r))
text_scan r (c ∷ bs) i h =
    ap (λ o. scan o bs) (textual_step r c i (inner_textual c (first_true _ h)))
    ∙ text_scan (saying (c ∷ []) r) bs (still_inside r (c ∷ []) i) (second_true _ h)
    ∙ ap (λ s. Some (at Text s)) (saying_more r (c ∷ []) bs)

-- ---- tests of lists

pub flat_all : {A : Type 0} (test : ℕ → Bool) (P : A → Type 0) (f : A → List ℕ)
    → ((x : A) → P x → list_all test (f x) ≡ true) → (xs : List A) → All P xs → list_all test (flat_map f xs) ≡ true
flat_all test P f each [] h = refl
flat_all test P f each (x ∷ xs) h =
    append_all test (f x) (flat_map f xs) (each x (All-head P x xs h)) (flat_all test P f each xs (All-tail P x xs h))

pub name_all : (test : ℕ → Bool) (names : List (List ℕ)) → list_all (list_all test) names ≡ true → (i : ℕ)
    → list_all test (slice_index_or names i []) ≡ true
name_all test [] h i = refl
name_all test (name ∷ names) h zero = first_true _ h
name_all test (name ∷ names) h (suc i) = name_all test names (second_true _ h) i

pub item_all : (test : ℕ → Bool) (xs : List ℕ) (i d : ℕ) → i < length xs → list_all test xs ≡ true
    → test (get_or xs i d) ≡ true
item_all test [] i d lt h = absurd (omega arith)
item_all test (x ∷ xs) zero d lt h = first_true _ h
item_all test (x ∷ xs) (suc i) d lt h = item_all test xs i d (omega arith) (second_true _ h)

-- ---- hexadecimal digits

pub hex_shown : (d : ℕ) → d < 16 → is_seen (digit_char d) ≡ true
hex_shown d low = agree_below_at (λ d. is_seen (digit_char d)) (λ d. true) 16 d refl low

hex_step : (r : Read) (n d : ℕ) → d < 16
    → step (Some (at (Number n) r)) (digit_char d) ≡ Some (at (Number (16 * n + d)) r)
hex_step r n d low = search rules

-- a number with the last digits of others behind it
abbrev number_on : ℕ → List ℕ → ℕ
number_on n [] = n
number_on n (d ∷ ds) = number_on (16 * n + d % 16) ds

hex_scan : (r : Read) (n : ℕ) (ds : List ℕ)
    → scan (Some (at (Number n) r)) (map (λ d. digit_char (d % 16)) ds) ≡ Some (at (Number (number_on n ds)) r)
hex_scan r n [] = refl
hex_scan r n (d ∷ ds) = search (rules, hex_step, hex_scan r (16 * n + d % 16) ds)

at_number : (r : Read) (a b : ℕ) → a ≡ b → Some (at (Number a) r) ≡ Some (at (Number b) r)
at_number r a b e = ap (λ n. Some (at (Number n) r)) e

-- four digits behind a number
four_digits : (r : Read) (c : ℕ)
    → scan (Some (at (Number (c / 0x10000)) r))
    (digit_at c 0x1000 ∷ digit_at c 0x100 ∷ digit_at c 0x10 ∷ digit_at c 1 ∷ [])
    ≡ Some (at (Number c) r)
four_digits r c =
    hex_scan r (c / 0x10000) (c / 0x1000 ∷ c / 0x100 ∷ c / 0x10 ∷ c / 1 ∷ [])
    ∙ at_number r (number_on (c / 0x10000) (c / 0x1000 ∷ c / 0x100 ∷ c / 0x10 ∷ c / 1 ∷ [])) c (omega arith)

-- the digits before them, of which there are none, one or two
upper_scan : (r : Read) (c : ℕ) → c < 0x110000
    → scan (Some (at (Number 0) r)) (upper_digits c) ≡ Some (at (Number (c / 0x10000)) r)
upper_scan r c low = search (rules, cond_both, ltb-true, at_number, hex_scan)

digits_scan : (r : Read) (c : ℕ) → c < 0x110000
    → scan (Some (at (Number 0) r)) (code_digits c) ≡ Some (at (Number c) r)
unfolding code_digits
digits_scan r c low = past _ _ (upper_digits c) _ _ (upper_scan r c low) (four_digits r c)

-- ---- characters of a text

below_all : (c : ℕ) → is_shown c ≡ true → c < 0x110000
below_all c h = grind (arith, nat_tests)

-- where the reader is in a text, which may end in a bracket
abbrev pub place : Bool → Place
place false = Text
place true = Bracket

-- whether a text ends in one behind some characters
abbrev pub ends : Bool → List ℕ → Bool
ends q [] = q
ends q (c ∷ cs) = ends (c == 93) cs

textual : (c : ℕ) → is_shown c ≡ true → is_referred c ≡ false → c == 93 ≡ false → is_textual c ≡ true
textual c h f b = grind (arith, nat_tests)

no_greater : (c : ℕ) → is_referred c ≡ false → c == 62 ≡ false
no_greater c f = grind (arith, nat_tests)

number_ends : (r : Read) (c : ℕ) → is_shown c ≡ true
    → scan (Some (at (Number 0) r)) (code_digits c ++ codes ";") ≡ Some (at Text (saying (c ∷ []) r))
number_ends r c h =
    past _ _ (code_digits c) (codes ";") _ (digits_scan r c (below_all c h))
    (ap (λ b. if b then Some (at Text (saying (c ∷ []) r)) else None) h)

reference_scan : (r : Read) (q : Bool) (c : ℕ) → IsInside r → is_shown c ≡ true
    → scan (Some (at (place q) r)) (reference c) ≡ Some (at Text (saying (c ∷ []) r))
reference_scan r q c i h = search (rules, number_ends, inside_is)

bracket_scan : (r : Read) (q : Bool) → IsInside r
    → step (Some (at (place q) r)) 93 ≡ Some (at Bracket (saying (93 ∷ []) r))
bracket_scan r false i = inside_is Bracket (saying (93 ∷ []) r) (still_inside r (93 ∷ []) i)
bracket_scan r true i = inside_is Bracket (saying (93 ∷ []) r) (still_inside r (93 ∷ []) i)

plain_scan : (r : Read) (q : Bool) (c : ℕ) → IsInside r → is_textual c ≡ true → c == 62 ≡ false
    → step (Some (at (place q) r)) c ≡ Some (at Text (saying (c ∷ []) r))
plain_scan r false c i h g = textual_step r c i h
plain_scan r true c i h g =
    ap (λ d. if is_plain c then (if d then None else in_text r c) else None) g ∙ textual_step r c i h

escaped_by : (r : Read) (q : Bool) (c : ℕ) (b d : Bool) → IsInside r → is_shown c ≡ true → is_referred c ≡ b
    → c == 93 ≡ d
    → scan (Some (at (place q) r)) (if b then reference c else c ∷ []) ≡ Some (at (place d) (saying (c ∷ []) r))
escaped_by r q c true true i h e f = absurd (grind (arith, nat_tests))
escaped_by r q c true false i h e f = reference_scan r q c i h
escaped_by r q c false true i h e f = rw (eqb-true c 93 f) (bracket_scan r q i)
escaped_by r q c false false i h e f = plain_scan r q c i (textual c h e f) (no_greater c e)

-- characters that are escaped, in a text
pub escaped_scan : (r : Read) (q : Bool) (cs : List ℕ) → IsInside r → list_all is_seen cs ≡ true
    → scan (Some (at (place q) r)) (flat_map escaped cs) ≡ Some (at (place (ends q cs)) (saying cs r))
unfolding escaped
escaped_scan r q [] i h = ap (λ s. Some (at (place q) s)) (sym (saying_none r))
escaped_scan r q (c ∷ cs) i h =
    past _ _ (escaped c) (flat_map escaped cs) _
    (escaped_by r q c (is_referred c) (c == 93) i (first_true _ (first_true _ h)) refl refl)
    (escaped_scan (saying (c ∷ []) r) (c == 93) cs (still_inside r (c ∷ []) i) (second_true _ h))
    ∙ ap (λ s. Some (at (place (ends q (c ∷ cs))) s)) (saying_more r (c ∷ []) cs)

-- a tag or a comma behind them
pub end_scan : (r : Read) (q : Bool) (c : ℕ) (bs : List ℕ) → ends_told c ≡ true
    → scan (Some (at (place q) r)) (c ∷ bs) ≡ scan (Some (at Text r)) (c ∷ bs)
end_scan r false c bs h = refl
end_scan r true c bs h = ap (λ d. scan (if is_plain c then (if d then None else in_text r c) else None) bs) (no_end c h)
  where
    no_end : (c : ℕ) → ends_told c ≡ true → c == 62 ≡ false
    no_end c h = grind (arith, nat_tests)

-- ---- the text of a picture

-- bytes behind those that have been read
pub further : {s t : State} {old new : List ℕ} (more : List ℕ) → ReadAs s old → new ≡ old ++ more
    → scan (Some s) more ≡ Some t → ReadAs t new
further {s} {t} {old} more h e k = search (rules, past)

last_are : {begun : List Element} {bytes : List ℕ} {fs : List Fact} → ReadAs (within begun fs) bytes
    → last_facts bytes ≡ fs
unfolding last_facts
last_are h = ap facts_of h.scanned

pub is_within : {begun : List Element} {bytes : List ℕ} {fs : List Fact} → ReadAs (within begun fs) bytes
    → IsWithin begun bytes
is_within {begun} h = record { scanned = h.scanned ∙ ap (λ fs. Some (within begun fs)) (sym (last_are h)) }

-- a text that tells these facts
pub told : {begun : List Element} {bytes : List ℕ} {fs : List Fact} → ReadAs (within begun fs) bytes
    → facts_in bytes ≡ reverse fs
told h = ap reverse (last_are h)

-- all facts with the last first
pub turned_back : (new old all : List Fact) → reverse old ≡ all → reverse new ++ old ≡ reverse (all ++ new)
turned_back new old all e =
    sym (reverse-append all new ∙ ap (λ l. reverse new ++ l) (ap reverse (sym e) ∙ reverse-reverse old))

-- what new facts make of those before them
pub turned : (new old : List Fact) → reverse (reverse new ++ old) ≡ reverse old ++ new
turned new old = reverse-append (reverse new) old ∙ ap (λ fs. reverse old ++ fs) (reverse-reverse new)

-- ---- numbers

pub decimal_inner : (n : ℕ) → list_all is_inner (decimal n) ≡ true
decimal_inner n = decimal_passes is_inner refl n
