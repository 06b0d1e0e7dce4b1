-- What a text has as pieces, step by step.
use Rattle.keymap_fmt.proofs.Common.{rules, ◌≡◌, ℕ, zero, suc, ◌-◌, ◌==◌, true, false, List, [], ◌∷◌, ◌++◌, length}
use Rattle.keymap_fmt.proofs.Common.{take, drop, get_or, refl, sym, ◌∙◌, ap, arith, slice_index, nat_tests, list_all}
use Rattle.keymap_fmt.proofs.Common.{is_space, is_blank, stays_on_line, leading, front_of, Found, Refused, Unfinished}
use Rattle.keymap_fmt.proofs.Common.{TextFaultKind, TokenKind, Standing, Beside, Below, Comment, Code, PieceValue}
use Rattle.keymap_fmt.proofs.Common.{pieces_after, lowered, comment, trimmed}
use Rattle.std.proofs.Common.{eq-eqb}
use Rattle.std.proofs.Math.Seq.{take-append_seam, drop-append_seam}
use Rattle.keymap_text.proofs.Shared.{front_blank, front_comment}
use Rattle.keymap_fmt.proofs.Leading.{leading_ended, trim_kept}

-- no bytes have no pieces
pub read_nil : (k : ℕ) (s : Standing) → pieces_after k s [] ≡ []
unfolding pieces_after
read_nil zero s = refl
read_nil (suc k) s = refl

-- a byte that is passed
pub read_one : (k : ℕ) (s : Standing) (c : ℕ) (bytes : List ℕ)
    → pieces_after (suc k) s (c ∷ bytes) ≡ pieces_after k s bytes
unfolding pieces_after
read_one k s c bytes = refl

-- bytes that are passed
pub read_after : (k : ℕ) (s : Standing) (bytes : List ℕ) → pieces_after k s bytes ≡ pieces_after 0 s (drop k bytes)
read_after zero s bytes = refl
read_after (suc k) s [] = read_nil (suc k) s ∙ sym (read_nil 0 s)
read_after (suc k) s (c ∷ bytes) = read_one k s c bytes ∙ read_after k s bytes

-- a blank
pub read_blank : (s : Standing) (c : ℕ) (bytes : List ℕ) → is_blank c ≡ true
    → pieces_after 0 s (c ∷ bytes) ≡ pieces_after 0 (lowered c s) bytes
unfolding pieces_after
read_blank s c bytes h = rw (front_blank c bytes h, no_hash c h, pieces_after) refl
  where
    no_hash : (c : ℕ) → is_blank c ≡ true → (c == 35) ≡ false
    no_hash c h = grind (arith, nat_tests)

-- a comment
pub read_hash : (s : Standing) (c : ℕ) (bytes : List ℕ) → c ≡ 35 → pieces_after 0 s (c ∷ bytes)
    ≡ comment (trimmed (c ∷ take (leading stays_on_line bytes) bytes)) s
    ∷ pieces_after (suc (leading stays_on_line bytes)) Below bytes
unfolding pieces_after
read_hash s c bytes h = rw (front_comment c bytes h, eq-eqb c 35 h, pieces_after) refl

-- a token
pub read_token : (s : Standing) (c : ℕ) (bytes : List ℕ) (kind : TokenKind) (n : ℕ) → front_of c bytes ≡ Found kind n
    → pieces_after 0 s (c ∷ bytes)
    ≡ record { part = Code kind; bytes = c ∷ take n bytes; standing = s } ∷ pieces_after n Beside bytes
unfolding pieces_after
read_token s c bytes kind n h = rw (h, pieces_after) refl

-- a place where no token stands
pub read_refused : (s : Standing) (c : ℕ) (bytes : List ℕ) (f : TextFaultKind) → front_of c bytes ≡ Refused f
    → pieces_after 0 s (c ∷ bytes) ≡ []
unfolding pieces_after
read_refused s c bytes f h = rw (h, pieces_after) refl

pub read_unfinished : (s : Standing) (c : ℕ) (bytes : List ℕ) → front_of c bytes ≡ Unfinished
    → pieces_after 0 s (c ∷ bytes) ≡ []
unfolding pieces_after
read_unfinished s c bytes h = rw (h, pieces_after) refl

-- The bytes begin with a blank.
pub record BeginsBlank (y : List ℕ) : Type 0 where
  pub first : ℕ
  pub rest : List ℕ
  pub blank : is_blank first ≡ true
  pub is : y ≡ first ∷ rest

-- The bytes are this token wherever a blank stands behind them. They stand in one line, and end with no blank.
pub record ReadsToken (kind : TokenKind) (bytes : List ℕ) : Type 0 where
  pub first : ℕ
  pub rest : List ℕ
  pub is : bytes ≡ first ∷ rest
  pub alone : (b : ℕ) (y : List ℕ) → is_blank b ≡ true → front_of first (rest ++ b ∷ y) ≡ Found kind (length rest)
  pub on_line : list_all stays_on_line (first ∷ rest) ≡ true
  pub end : is_space (slice_index (first ∷ rest) (length rest)) ≡ false

-- The bytes are a comment that ends with no blank.
pub record ReadsComment (bytes : List ℕ) : Type 0 where
  pub rest : List ℕ
  pub is : bytes ≡ 35 ∷ rest
  pub on_line : leading stays_on_line rest ≡ length rest
  pub end : is_space (slice_index (35 ∷ rest) (length rest)) ≡ false

-- a token in front
pub token_read : (kind : TokenKind) (bytes y : List ℕ) (s : Standing) → ReadsToken kind bytes → BeginsBlank y
    → pieces_after 0 s (bytes ++ y)
    ≡ record { part = Code kind; bytes = bytes; standing = s } ∷ pieces_after 0 Beside y
token_read kind bytes y s r b = search (rules, read_token, take-append_seam, read_after, drop-append_seam)

-- the bytes behind a line
drop_line : (w y : List ℕ) (c : ℕ) → drop (suc (length w)) (w ++ c ∷ y) ≡ y
drop_line [] y c = refl
drop_line (x ∷ w) y c = drop_line w y c

-- a comment in front, with the end of its line
pub comment_read : (bytes y : List ℕ) (s : Standing) → ReadsComment bytes
    → pieces_after 0 s (bytes ++ 10 ∷ y)
    ≡ record { part = Comment; bytes = bytes; standing = s } ∷ pieces_after 0 Below y
comment_read bytes y s r =
    let w = r.rest in
    let n : leading stays_on_line (w ++ 10 ∷ y) ≡ length w = leading_ended stays_on_line w 10 y r.on_line refl in
    let kept : trimmed (35 ∷ w) ≡ 35 ∷ w =
    trim_kept (35 ∷ w) (omega arith) (ap (λ n. is_space (get_or (35 ∷ w) n 0)) (before (length w)) ∙ r.end) in
    ap (λ t. pieces_after 0 s (t ++ 10 ∷ y)) r.is ∙ read_hash s 35 (w ++ 10 ∷ y) refl
    ∙ ap (λ n. comment (trimmed (35 ∷ take n (w ++ 10 ∷ y))) s ∷ pieces_after (suc n) Below (w ++ 10 ∷ y)) n
    ∙ ap (λ t. comment (trimmed (35 ∷ t)) s ∷ pieces_after (suc (length w)) Below (w ++ 10 ∷ y))
    (take-append_seam w (10 ∷ y))
    ∙ ap (λ (t : List ℕ). record { part = Comment; bytes = t; standing = s }
    ∷ pieces_after (suc (length w)) Below (w ++ 10 ∷ y)) (kept ∙ sym r.is)
    ∙ ap (λ (ps : List PieceValue). record { part = Comment; bytes = bytes; standing = s } ∷ ps)
    (read_after (suc (length w)) Below (w ++ 10 ∷ y) ∙ ap (pieces_after 0 Below) (drop_line w y 10))
  where
    before : (n : ℕ) → suc n - 1 ≡ n
    before n = omega arith
