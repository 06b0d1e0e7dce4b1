-- What stands in front of some bytes stays there, whatever follows, unless the bytes break it off.
use Rattle.keymap_text.proofs.Common.{◌≡◌, ◌⊎◌, inl, inr, ⊎_elim, ℕ, zero, suc, ◌+◌, ◌<◌, ◌≤◌, ◌&&◌, true, false, not}
use Rattle.keymap_text.proofs.Common.{List, [], ◌∷◌, ◌++◌, length, take, drop, get_or, refl, sym, ◌∙◌, ap, ap₂, arith}
use Rattle.keymap_text.proofs.Common.{eq-or-lt_of_le, nat_tests, take-append-le, drop-append-le, TextFaultKind, BadWord}
use Rattle.keymap_text.proofs.Common.{TokenKind, Word, Literal, ParenL, ParenR, Item, Value, Open, Close, Char, leading}
use Rattle.keymap_text.proofs.Common.{is_word, word, Front, Found, Refused, front_of, rules}
use Rattle.keymap_text.proofs.Common.{tokens_after, token_before, Then, is_empty, is_word_kind, item, meaning, Fronts}
use Rattle.keymap_text.proofs.Common.{IsOpen, prefix_len_passes}
use Rattle.keymap_text.proofs.InFront.{InFront, Blank, Comment, Left, Right, Quote, Letters, Long, Nothing, in_front}
use Rattle.keymap_text.proofs.InFront.{front_blank, front_comment, front_left, front_right, front_quote, front_word}
use Rattle.keymap_text.proofs.InFront.{no_word, short_word}
use Rattle.keymap_text.proofs.Leading.{leading_pass, leading_le, leading_short, leading_grows}
use Rattle.keymap_text.proofs.Literals.{literal_or, literal_found, printable_front}
use Rattle.keymap_text.proofs.Splitting.{split_token}

-- What stands in front of these bytes stays there, and if it is a word another byte ends it.
pub record Stays (c : ℕ) (b : List ℕ) : Type 0 where
  pub on : (x : List ℕ) → front_of c (b ++ x) ≡ front_of c b
  pub ended : (n : ℕ) → front_of c b ≡ Found Word n → n < length b

-- bytes that are not open
pub stays_or_open : (c : ℕ) (b : List ℕ) → Stays c b ⊎ IsOpen (c ∷ b)
stays_or_open c b = go (front_of c b) refl (in_front c b)
  where
    stay : ((x : List ℕ) → front_of c (b ++ x) ≡ front_of c b) → ((n : ℕ) → front_of c b ≡ Found Word n → n < length b)
        → Stays c b ⊎ IsOpen (c ∷ b)
    stay o w = inl (record { on = o; ended = w })

    long_word : (m : ℕ) → 32 ≤ m → word m ≡ Refused BadWord
    long_word m h = grind (arith, nat_tests)

    go : (f : Front) → front_of c b ≡ f → InFront c b f → Stays c b ⊎ IsOpen (c ∷ b)
    go f e (Blank i) = stay (λ x. front_blank c (b ++ x) i ∙ sym e) (λ n w. absurd (cc))
    go f e (Comment i) =
        search (rules, ⊎_elim, stay, front_comment, leading_short, eq-or-lt_of_le, leading_le)
    go f e (Left i) = stay (λ x. front_left c (b ++ x) i ∙ sym e) (λ n w. absurd (cc))
    go f e (Right i) = stay (λ x. front_right c (b ++ x) i ∙ sym e) (λ n w. absurd (cc))
    go f e (Quote i q) = ⊎_elim
        (λ u. inr (inr (inr (front_quote c b i ∙ u))))
        (λ s. stay (λ x. front_quote c (b ++ x) i ∙ s x ∙ sym (front_quote c b i))
        (λ n w. absurd (no_word Word (literal_found b Word n (sym (front_quote c b i) ∙ w)) refl)))
        (literal_or b)
    go f e (Letters w l) =
        search (rules, ⊎_elim, stay, front_word, leading_short, eq-or-lt_of_le, leading_le)
    go f e (Long w l) = search (rules, stay, front_word, long_word, leading_grows)
    go f e (Nothing n) = stay (λ x. n (b ++ x) ∙ sym e) (λ n w. absurd (cc))

-- what is found in open bytes is a word, and has them all
pub open_found : (c n : ℕ) (k : TokenKind) (b : List ℕ) → IsOpen (c ∷ b) → front_of c b ≡ Found k n
    → (k ≡ Word) × (n ≡ length b)
open_found c n k b o h = grind (arith, front_comment)

-- open bytes begin with no fault
pub open_refused : (c : ℕ) (f : TextFaultKind) (b : List ℕ) → IsOpen (c ∷ b) → front_of c b ≡ Refused f → ⊥
open_refused c f b o h = grind (arith, front_comment)

-- a token that is found stands there whatever follows, but for a word at the end
pub found_on : (c n : ℕ) (k : TokenKind) (b x : List ℕ) → front_of c b ≡ Found k n → (k ≡ Word → n < length b)
    → front_of c (b ++ x) ≡ Found k n
found_on c n k b x h l = ⊎_elim
    (λ s. s.on x ∙ h)
    (λ o. absurd (let is = open_found c n k b o h in omega (arith, is.1, l is.0)))
    (stays_or_open c b)

-- a fault in front stands there whatever follows
pub refused_on : (c : ℕ) (g : TextFaultKind) (b x : List ℕ) → front_of c b ≡ Refused g → front_of c (b ++ x) ≡ Refused g
refused_on c g b x h = ⊎_elim (λ s. s.on x ∙ h) (λ o. absurd (open_refused c g b o h)) (stays_or_open c b)

-- behind a word bytes are left, which settle it
pub is_whole : (k : TokenKind) (n : ℕ) (b x : List ℕ) → (k ≡ Word → n < length b)
    → not (is_word_kind k && is_empty (drop n b ++ x)) ≡ true
is_whole Word n b x l = ap not (some n b (l refl))
  where
    some : (n : ℕ) (b : List ℕ) → n < length b → is_empty (drop n b ++ x) ≡ false
    some n [] h = absurd (omega (arith, h))
    some zero (c ∷ b) h = refl
    some (suc n) (c ∷ b) h = some n b (omega (arith, h))
is_whole _ n b x l = refl

-- a token that is found is in front whatever follows
pub found_fronts : (c n : ℕ) (k : TokenKind) (b : List ℕ) (i : Item) → front_of c b ≡ Found k n → n ≤ length b
    → (k ≡ Word → n < length b) → item k (c ∷ take n b) ≡ i → Fronts (c ∷ b) i (suc n)
found_fronts c n k b i h l w e = record {
  token = λ q x. token_before k (c ∷ take n b) q (drop n b ++ x);
  splits = λ q x.
      split_token q c n k (b ++ x) (found_on c n k b x h w)
      ∙ ap₂ (λ (t r : List ℕ). Then (token_before k (c ∷ t) q r) (tokens_after 0 (q + suc n) r))
      (take-append-le n b x l) (drop-append-le n b x l);
  item = λ q x. e;
  start = λ q x. refl;
  settled = λ q x. is_whole k n b x w;
  some = omega arith;
  inside = omega (arith, l);
}

-- a word that another byte ends
pub word_fronts : (n : ℕ) (rest : List ℕ) → n ≡ leading is_word rest → n < length rest → 0 < n → n ≤ 32
    → Fronts rest (Value (meaning (take n rest))) n
word_fronts n [] e l o b = absurd (omega (arith, l))
word_fronts zero (c ∷ w) e l o b = absurd (omega (arith, o))
word_fronts (suc k) (c ∷ w) e l o b =
    let t = prefix_len_passes is_word (c ∷ w) 0 0 (omega (arith, e)) in
    let size : leading is_word w ≡ k = omega (arith, e, leading_pass is_word c w t) in
    found_fronts c k Word w (Value (meaning (c ∷ take k w)))
    (front_word c w t ∙ ap word size ∙ short_word k (omega (arith, b))) (omega (arith, l)) (λ _. omega (arith, l)) refl

-- a quoted printable character
pub quoted_fronts : (rest : List ℕ) → 2 < length rest → get_or rest 0 0 ≡ 39 → 31 < get_or rest 1 0
    → get_or rest 1 0 < 127 → get_or rest 2 0 ≡ 39 → Fronts rest (Value (Char (get_or rest 1 0))) 3
quoted_fronts [] l e f g k = absurd (omega (arith, l))
quoted_fronts (a ∷ s) l e f g k =
    found_fronts a 2 (Literal (get_or s 0 0)) s _ (front_quote a s e ∙ printable_front s (omega (arith, l)) f g k)
    (omega (arith, l)) (λ w. absurd (cc)) refl

-- a left parenthesis
pub left_fronts : (rest : List ℕ) → 0 < length rest → get_or rest 0 0 ≡ 40 → Fronts rest Open 1
left_fronts [] l e = absurd (omega (arith, l))
left_fronts (c ∷ z) l e = found_fronts c 0 ParenL z Open (front_left c z e) (omega arith) (λ w. absurd (cc)) refl

-- a right one
pub right_fronts : (rest : List ℕ) → 0 < length rest → get_or rest 0 0 ≡ 41 → Fronts rest Close 1
right_fronts [] l e = absurd (omega (arith, l))
right_fronts (c ∷ z) l e = found_fronts c 0 ParenR z Close (front_right c z e) (omega arith) (λ w. absurd (cc)) refl
