-- What stands in front of some bytes, by its first byte.
use Rattle.keymap_text.proofs.Common.{◌≡◌, ◌⊎◌, inl, inr, ℕ, ◌<◌, ◌≤◌, ◌==◌, Bool, true, false, not, cond, List, length}
use Rattle.keymap_text.proofs.Common.{refl, ap, subst, arith, nat_lt, eqb-true, nat_tests, TextFaultKind, BadByte}
use Rattle.keymap_text.proofs.Common.{BadWord, TokenKind, ParenL, ParenR, Word, leading, stays_on_line, is_blank, rules}
use Rattle.keymap_text.proofs.Common.{is_word, literal, word, Front, Skipped, Found, Refused, Unfinished, front_of}
use Rattle.keymap_text.proofs.Common.{is_word_kind, is_end_inside}
use Rattle.keymap_text.proofs.Leading.{leading_le}
use Rattle.keymap_text.proofs.Literals.{literal_fits, literal_found, literal_no_skip, literal_refused}

-- a blank, and a comment
pub front_blank : (c : ℕ) (s : List ℕ) → is_blank c ≡ true → front_of c s ≡ Skipped 0
unfolding front_of
front_blank c s h = rw (h, front_of) refl

pub front_comment : (c : ℕ) (s : List ℕ) → c ≡ 35 → front_of c s ≡ Skipped (leading stays_on_line s)
unfolding front_of
front_comment c s h = ap (λ c. front_of c s) h

-- parentheses
pub front_left : (c : ℕ) (s : List ℕ) → c ≡ 40 → front_of c s ≡ Found ParenL 0
unfolding front_of
front_left c s h = ap (λ c. front_of c s) h

pub front_right : (c : ℕ) (s : List ℕ) → c ≡ 41 → front_of c s ≡ Found ParenR 0
unfolding front_of
front_right c s h = ap (λ c. front_of c s) h

-- an apostrophe
pub front_quote : (c : ℕ) (s : List ℕ) → c ≡ 39 → front_of c s ≡ literal s
unfolding front_of
front_quote c s h = ap (λ c. front_of c s) h

-- a letter or digit
pub front_word : (c : ℕ) (s : List ℕ) → is_word c ≡ true → front_of c s ≡ word (leading is_word s)
unfolding front_of
front_word c s h = grind arith

-- What stands in front is one of these.
pub data InFront (c : ℕ) (s : List ℕ) : Front → Type 0 where
  Blank : is_blank c ≡ true → InFront c s (Skipped 0)
  Comment : c ≡ 35 → InFront c s (Skipped (leading stays_on_line s))
  Left : c ≡ 40 → InFront c s (Found ParenL 0)
  Right : c ≡ 41 → InFront c s (Found ParenR 0)
  Quote : {f : Front} → c ≡ 39 → literal s ≡ f → InFront c s f
  Letters : is_word c ≡ true → leading is_word s < 32 → InFront c s (Found Word (leading is_word s))
  Long : is_word c ≡ true → 32 ≤ leading is_word s → InFront c s (Refused BadWord)
  Nothing : ((y : List ℕ) → front_of c y ≡ Refused BadByte) → InFront c s (Refused BadByte)

pub in_front : (c : ℕ) (s : List ℕ) → InFront c s (front_of c s)
unfolding front_of
in_front c s = go (is_blank c) (c == 35) (c == 40) (c == 41) (c == 39) (is_word c) refl refl refl refl refl refl
  where
    letters : (b : Bool) → nat_lt (leading is_word s) 32 ≡ b → is_word c ≡ true
        → InFront c s (cond b (Found Word (leading is_word s)) (Refused BadWord))
    letters true e h = Letters h (grind (arith, nat_tests))
    letters false e h = Long h (grind (arith, nat_tests))

    go : (a b d e f g : Bool) → is_blank c ≡ a → (c == 35) ≡ b → (c == 40) ≡ d → (c == 41) ≡ e → (c == 39) ≡ f
        → is_word c ≡ g → InFront c s (cond a (Skipped 0) (cond b (Skipped (leading stays_on_line s))
        (cond d (Found ParenL 0) (cond e (Found ParenR 0) (cond f (literal s)
        (cond g (word (leading is_word s)) (Refused BadByte)))))))
    go true b d e f g p q r s t u = Blank p
    go false true d e f g p q r s t u = Comment (eqb-true _ _ q)
    go false false true e f g p q r s t u = Left (eqb-true _ _ r)
    go false false false true f g p q r s t u = Right (eqb-true _ _ s)
    go false false false false true g p q r s t u = Quote (eqb-true _ _ t) refl
    go false false false false false true p q r s t u = letters _ refl u
    go false false false false false false p q r s t u = Nothing (λ y. rw (p, q, r, s, t, u) refl)

-- where it is known which token stands in front
pub in_front_is : (c : ℕ) (s : List ℕ) (f : Front) → front_of c s ≡ f → InFront c s f
in_front_is c s f h = subst (InFront c s) h (in_front c s)

-- A token that stands in front ends within the bytes, and a word has at most 32 bytes.
pub record Fits (kind : TokenKind) (n : ℕ) (s : List ℕ) : Type 0 where
  pub within : n ≤ length s
  pub short : kind ≡ Word → n < 32

-- a quoted character is no word
pub no_word : (kind : TokenKind) → is_word_kind kind ≡ false → kind ≡ Word → ⊥
no_word kind h e = let k : is_word_kind kind ≡ true = ap is_word_kind e in cc

pub front_fits : (c : ℕ) (s : List ℕ) (kind : TokenKind) (n : ℕ) → front_of c s ≡ Found kind n → Fits kind n s
front_fits c s kind n h = go kind n (in_front_is c s (Found kind n) h)
  where
    go : (kind : TokenKind) (n : ℕ) → InFront c s (Found kind n) → Fits kind n s
    go kind n (Left i) = record { within = omega arith; short = λ e. omega arith }
    go kind n (Right i) = record { within = omega arith; short = λ e. omega arith }
    go kind n (Quote i e) = search (rules, literal_fits, no_word, literal_found)
    go kind n (Letters w l) = record { within = leading_le is_word s; short = λ _. l }

-- what is passed over is a blank or a comment
pub skipped_by : (c n : ℕ) (s : List ℕ) → front_of c s ≡ Skipped n → (is_blank c ≡ true) ⊎ (c ≡ 35)
skipped_by c n s h = go n (in_front_is c s (Skipped n) h)
  where
    go : (n : ℕ) → InFront c s (Skipped n) → (is_blank c ≡ true) ⊎ (c ≡ 35)
    go n (Blank i) = inl i
    go n (Comment i) = inr i
    go n (Quote i e) = absurd (literal_no_skip s n e)

-- a word that is found is one of letters and digits
pub word_found : (c n : ℕ) (s : List ℕ) → front_of c s ≡ Found Word n
    → (is_word c ≡ true) × (leading is_word s ≡ n) × (n < 32)
word_found c n s h = go n (in_front_is c s (Found Word n) h)
  where
    go : (n : ℕ) → InFront c s (Found Word n) → (is_word c ≡ true) × (leading is_word s ≡ n) × (n < 32)
    go n (Quote i e) = absurd (no_word Word (literal_found s Word n e) refl)
    go n (Letters w l) = (w, refl, l)

-- what is unfinished begins with an apostrophe
pub is_quote : (c : ℕ) (s : List ℕ) → front_of c s ≡ Unfinished → c ≡ 39
is_quote c s h = go (in_front_is c s Unfinished h)
  where
    go : InFront c s Unfinished → c ≡ 39
    go (Quote i e) = i

-- few letters and digits are a word
pub short_word : (n : ℕ) → n < 32 → word n ≡ Found Word n
short_word n h = grind (arith, nat_tests)

-- a fault in front does not come of the end
pub refused_early : (c : ℕ) (g : TextFaultKind) (s : List ℕ) → front_of c s ≡ Refused g → not (is_end_inside g) ≡ true
refused_early c g s h = go g (in_front_is c s (Refused g) h)
  where
    go : (g : TextFaultKind) → InFront c s (Refused g) → not (is_end_inside g) ≡ true
    go g (Quote i e) = ap (λ f. not (is_end_inside f)) (literal_refused s g e)
    go g (Long w l) = refl
    go g (Nothing n) = refl
