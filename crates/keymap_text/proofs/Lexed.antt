-- Texts whose tokens are known, whatever stands behind them.
use Rattle.keymap_text.proofs.Common.{◌≡◌, ℕ, ◌+◌, ◌<◌, ◌≤◌, true, List, [], ◌∷◌, ◌++◌, length, refl, ◌∙◌, arith}
use Rattle.keymap_text.proofs.Common.{append_assoc, length-append, TokenKind, ParenL, ParenR, Literal, Word, Item, Open}
use Rattle.keymap_text.proofs.Common.{Close, Value, Char, tokens_after, leading, is_word, is_blank, Found, front_of}
use Rattle.keymap_text.proofs.Common.{meaning, item, ending_of_tokens}
use Rattle.keymap_text.proofs.Leading.{leading_tail}
use Rattle.keymap_text.proofs.InFront.{front_quote, front_left, front_right}
use Rattle.keymap_text.proofs.Splitting.{split_blank, split_whole}
use Rattle.keymap_text.proofs.Steps.{word_ended}
use Rattle.keymap_text.proofs.Faults.{list_then, behind_then}
use Rattle.keymap_text.proofs.Verdicts.{items_of}
use Rattle.keymap_text.proofs.Literals.{printable}

-- no letter or digit comes first
abbrev pub NoWord : List ℕ → Type 0
NoWord y = leading is_word y ≡ 0

abbrev pub Any : List ℕ → Type 0
Any y = Unit {0}

-- The bytes t are these tokens in front of whatever meets P.
pub record Lexes (P : List ℕ → Type 0) (t : List ℕ) (is : List Item) : Type 0 where
  pub items : (q : ℕ) (y : List ℕ) → P y
      → items_of (tokens_after 0 q (t ++ y)) ≡ is ++ items_of (tokens_after 0 (q + length t) y)
  pub end : (q : ℕ) (y : List ℕ) → P y
      → ending_of_tokens (tokens_after 0 q (t ++ y)) ≡ ending_of_tokens (tokens_after 0 (q + length t) y)

-- no bytes are no tokens
pub lexes_none : (P : List ℕ → Type 0) → Lexes P [] []
lexes_none P = grind arith

-- tokens of two texts, one after the other
pub lexes_both : {P Q : List ℕ → Type 0} {t u : List ℕ} {is js : List Item} → Lexes P t is → Lexes Q u js
    → ((y : List ℕ) → Q y → P (u ++ y)) → Lexes Q (t ++ u) (is ++ js)
lexes_both a b s = grind (arith, append_assoc, length-append)

-- a blank is no token
pub lexes_blank : (P : List ℕ → Type 0) (c : ℕ) → is_blank c ≡ true → Lexes P (c ∷ []) []
lexes_blank P c h = grind (arith, split_blank)

-- bytes that are found as one token are that token
lexes_one : (P : List ℕ → Type 0) (c : ℕ) (w : List ℕ) (kind : TokenKind) (i : Item)
    → ((y : List ℕ) → P y → front_of c (w ++ y) ≡ Found kind (length w)) → item kind (c ∷ w) ≡ i
    → Lexes P (c ∷ w) (i ∷ [])
lexes_one P c w kind i f e = grind (arith, behind_then, list_then, split_whole)

-- a word is one token where no letter or digit follows
pub lexes_word : (w : List ℕ) → 0 < length w → length w ≤ 32 → leading is_word w ≡ length w
    → Lexes NoWord w (Value (meaning w) ∷ [])
lexes_word [] z l h = absurd (omega (arith, z))
lexes_word (a ∷ w) z l h =
    let t = leading_tail is_word a w h in
    lexes_one NoWord a w Word (Value (meaning (a ∷ w))) (λ y k. word_ended a w y t.0 t.1 k (omega (arith, l))) refl

-- a printed quoted character is one token
pub lexes_quoted : (c : ℕ) → 31 < c → c < 127 → Lexes NoWord (39 ∷ c ∷ 39 ∷ []) (Value (Char c) ∷ [])
lexes_quoted c h k =
    lexes_one NoWord 39 (c ∷ 39 ∷ []) (Literal c) (Value (Char c))
    (λ y e. front_quote 39 (c ∷ 39 ∷ y) refl ∙ printable c y h k) refl

-- a left parenthesis is one token
pub lexes_left : Lexes NoWord (40 ∷ []) (Open ∷ [])
lexes_left = lexes_one NoWord 40 [] ParenL Open (λ y e. front_left 40 y refl) refl

-- a right parenthesis is one token
pub lexes_right : Lexes NoWord (41 ∷ []) (Close ∷ [])
lexes_right = lexes_one NoWord 41 [] ParenR Close (λ y e. front_right 41 y refl) refl
