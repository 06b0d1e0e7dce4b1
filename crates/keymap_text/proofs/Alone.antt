-- A token reads alone: its bytes are the same token wherever a blank stands behind them.
use Rattle.keymap_text.proofs.Common.{◌≡◌, ℕ, ◌≤◌, Bool, true, false, List, [], ◌∷◌, ◌++◌, take, sym, ◌∙◌, ap}
use Rattle.keymap_text.proofs.Common.{refl, arith, add-one, ◌&&◌, slice_index, list_all, nat_tests, TokenKind, rules}
use Rattle.keymap_text.proofs.Common.{Literal, leading, is_blank, is_word, stays_on_line, separates, Skipped}
use Rattle.keymap_text.proofs.Common.{Found, front_of}
use Rattle.keymap_text.specs.Alone.{IsWide, StandsAlone}
use Rattle.keymap_text.proofs.InFront.{InFront, Left, Right, Quote, Letters, in_front_is, front_left, front_right}
use Rattle.keymap_text.proofs.InFront.{front_quote, front_word, front_fits, short_word, skipped_by}
use Rattle.keymap_text.proofs.Leading.{leading_pass, leading_fail}
use Rattle.keymap_text.proofs.QuotedFound.{literal_alone, literal_wide, literal_on_line}

-- the bytes that pass a test, and others behind them of which the first doesn't
leading_cut : (p : ℕ → Bool) (s y : List ℕ) → leading p y ≡ 0 → leading p (take (leading p s) s ++ y) ≡ leading p s
leading_cut p [] y h =
    h
leading_cut p (c ∷ s) y h = go (p c) refl (leading_cut p s y h)
  where
    go : (b : Bool) → p c ≡ b → leading p (take (leading p s) s ++ y) ≡ leading p s
        → leading p (take (leading p (c ∷ s)) (c ∷ s) ++ y) ≡ leading p (c ∷ s)
    go true e k = search (rules, leading_pass, add-one)
    go false e k =
        ap (λ n. leading p (take n (c ∷ s) ++ y)) (leading_fail p c s e) ∙ h ∙ sym (leading_fail p c s e)

-- a blank is in no word
blank_no_word : (b : ℕ) → is_blank b ≡ true → is_word b ≡ false
blank_no_word b h = grind (arith, nat_tests)

-- by what stands in front
front_alone : (c n b : ℕ) (k : TokenKind) (s y : List ℕ) → front_of c s ≡ Found k n → is_blank b ≡ true
    → front_of c (take n s ++ b ∷ y) ≡ Found k n
front_alone c n b k s y h e = go k n (in_front_is c s (Found k n) h)
  where
    go : (k : TokenKind) (n : ℕ) → InFront c s (Found k n) → front_of c (take n s ++ b ∷ y) ≡ Found k n
    go k n (Left i) = front_left c (b ∷ y) i
    go k n (Right i) = front_right c (b ∷ y) i
    go k n (Quote i q) = front_quote c (take n s ++ b ∷ y) i ∙ literal_alone s (b ∷ y) k n q
    go k n (Letters w l) =
        search (rules, front_word, leading_cut, leading_fail, blank_no_word, short_word)

-- a letter or digit is no LF, and no blank
word_on_line : (c : ℕ) → is_word c ≡ true → stays_on_line c ≡ true
word_on_line c h = grind (arith, nat_tests)

word_no_blank : (c : ℕ) → is_word c ≡ true → is_blank c ≡ false
word_no_blank c h = grind (arith, nat_tests)

-- no byte of the word in front is an LF
front_on_line : (s : List ℕ) → list_all stays_on_line (take (leading is_word s) s) ≡ true
front_on_line [] = refl
front_on_line (c ∷ s) = go (is_word c) refl (front_on_line s)
  where
    go : (b : Bool) → is_word c ≡ b → list_all stays_on_line (take (leading is_word s) s) ≡ true
        → list_all stays_on_line (take (leading is_word (c ∷ s)) (c ∷ s)) ≡ true
    go true e k = search (rules, leading_pass, add-one, word_on_line)
    go false e k = ap (λ n. list_all stays_on_line (take n (c ∷ s))) (leading_fail is_word c s e)

-- the last byte of a front passes
front_end : (p : ℕ → Bool) (c : ℕ) (s : List ℕ) → p c ≡ true → p (slice_index (c ∷ s) (leading p s)) ≡ true
front_end p c [] h = h
front_end p c (d ∷ s) h = grind (arith, leading_fail, leading_pass, (front_end p d s))

-- The bytes of a token stand in one line, and the last one is no blank.
abbrev StandsInLine : ℕ → ℕ → List ℕ → Type 0
StandsInLine c n s =
    (list_all stays_on_line (c ∷ take n s) ≡ true) × (is_blank (slice_index (c ∷ s) n) ≡ false)

token_in_line : (c n : ℕ) (k : TokenKind) (s : List ℕ) → front_of c s ≡ Found k n → StandsInLine c n s
token_in_line c n k s h = go k n (in_front_is c s (Found k n) h)
  where
    paren : (d : ℕ) → c ≡ d → stays_on_line d ≡ true → is_blank d ≡ false → StandsInLine c 0 s
    paren d i p q = (ap (λ c. stays_on_line c && true) i ∙ ap (λ b. b && true) p, ap is_blank i ∙ q)

    go : (k : TokenKind) (n : ℕ) → InFront c s (Found k n) → StandsInLine c n s
    go k n (Left i) = paren 40 i refl refl
    go k n (Right i) = paren 41 i refl refl
    go k n (Quote i q) = search (rules, literal_on_line)
    go k n (Letters w l) = search (rules, word_on_line, front_on_line, word_no_blank, front_end)

-- a literal has two apostrophes, and something between them
front_wide : (c n : ℕ) (k : TokenKind) (s : List ℕ) → front_of c s ≡ Found k n → IsWide k n
front_wide c n k s h = go k n (in_front_is c s (Found k n) h)
  where
    wide : (k : TokenKind) (n : ℕ) → 2 ≤ n → IsWide k n
    wide (Literal d) n l = l
    wide _ n l = tt

    go : (k : TokenKind) (n : ℕ) → InFront c s (Found k n) → IsWide k n
    go k n (Quote i q) = wide k n (literal_wide s k n q)
    go k n _ = tt

-- what is found stands alone
pub stands_alone : (c n : ℕ) (k : TokenKind) (s : List ℕ) → front_of c s ≡ Found k n → StandsAlone k c n s
stands_alone c n k s h = grind (arith, front_alone, front_fits, front_wide, token_in_line)

-- what is passed over is a blank or a comment
pub skipped_separates : (c n : ℕ) (s : List ℕ) → front_of c s ≡ Skipped n → separates c ≡ true
skipped_separates c n s h = grind (arith, skipped_by)
