-- The pieces of a text: each one reads alone, and stands where a piece can stand.
use Rattle.keymap_fmt.proofs.Common.{rules, ◌≡◌, ◌⊎◌, inl, inr, ℕ, zero, suc, Bool, true, false, List, [], ◌∷◌}
use Rattle.keymap_fmt.proofs.Common.{take, refl, sym, ◌∙◌, ap, subst, length, slice_index, arith}
use Rattle.keymap_fmt.proofs.Common.{nat_tests, length-take-le, is_blank, is_space, stays_on_line, leading, front_of}
use Rattle.keymap_fmt.proofs.Common.{Front, Skipped, Found, Refused, Unfinished, stands_alone, skipped_by, TokenKind}
use Rattle.keymap_fmt.proofs.Common.{Standing, AtTop, Beside, Below, Apart, Part, Comment, Code, PieceValue}
use Rattle.keymap_fmt.proofs.Common.{pieces_after, lower, lowered, behind, trimmed}
use Rattle.std.proofs.lemmas.List.{get_or-take}
use Rattle.keymap_text.proofs.Shared.{leading_front, leading_part}
use Rattle.keymap_fmt.proofs.Leading.{trim_first}
use Rattle.keymap_fmt.proofs.Reading.{ReadsToken, ReadsComment, read_nil, read_one, read_blank, read_hash, read_token}
use Rattle.keymap_fmt.proofs.Reading.{read_refused, read_unfinished}

-- may a piece stand at t that stands at s if nothing is before it?
abbrev pub reaches : Standing → Standing → Bool
reaches AtTop AtTop = true
reaches Beside t = true
reaches Below Below = true
reaches Below Apart = true
reaches Apart Apart = true
reaches s t = false

-- the end of a line leads on
lower_reaches : (s t : Standing) → reaches (lower s) t ≡ true → reaches s t ≡ true
lower_reaches Beside t h = refl
lower_reaches Below Below h = refl
lower_reaches s t h = h

-- any blank leads on
blank_reaches : (c : ℕ) (s t : Standing) → reaches (lowered c s) t ≡ true → reaches s t ≡ true
blank_reaches c s t h = search (rules, lower_reaches)

-- a piece stands where nothing is before it
reaches_itself : (s : Standing) → reaches s s ≡ true
reaches_itself AtTop = refl
reaches_itself s = refl

-- the bytes are read as the piece again
abbrev pub Reads : Part → List ℕ → Type 0
Reads Comment bytes = ReadsComment bytes
Reads (Code kind) bytes = ReadsToken kind bytes

-- Pieces as a text has them, of which the first would stand at s.
pub data ArePieces : Standing → List PieceValue → Type 0 where
  no_piece : {s : Standing} → ArePieces s []
  one_piece : {s : Standing} {ps : List PieceValue} (p : PieceValue) → Reads p.part p.bytes
      → reaches s p.standing ≡ true → ArePieces (behind p.part) ps → ArePieces s (p ∷ ps)

-- blanks before them change nothing but where the first stands
after_blank : (c : ℕ) (s : Standing) (ps : List PieceValue) → ArePieces (lowered c s) ps → ArePieces s ps
after_blank c s ps no_piece = no_piece
after_blank c s ps (one_piece p r h more) = one_piece p r (blank_reaches c s p.standing h) more

-- a comment of a text reads as a comment
comment_reads : (c : ℕ) (bytes : List ℕ) → c ≡ 35
    → ReadsComment (trimmed (c ∷ take (leading stays_on_line bytes) bytes))
comment_reads c bytes h =
    let w = take (leading stays_on_line bytes) bytes in
    let cut = trim_first c w (ap is_space h) in
    let m = cut.0 in
    let size = length-take-le m w cut.1.within in
    record {
      rest = take m w;
      is = cut.1.is ∙ ap (λ (c : ℕ). c ∷ take m w) h;
      on_line = leading_part stays_on_line m w (omega (arith, cut.1.within, leading_front stays_on_line bytes));
      end = ap (λ n. is_space (slice_index (35 ∷ take m w) n)) size
          ∙ ap is_space (get_or-take (suc m) (35 ∷ w) m 0 (omega arith))
          ∙ ap (λ (c : ℕ). is_space (slice_index (c ∷ w) m)) (sym h) ∙ cut.1.end;
    }

-- what is no blank is none that ends no line
no_space : (c : ℕ) → is_blank c ≡ false → is_space c ≡ false
no_space c h = grind (arith, nat_tests)

-- a token of a text reads as that token
pub token_reads : (c n : ℕ) (kind : TokenKind) (bytes : List ℕ) → front_of c bytes ≡ Found kind n
    → ReadsToken kind (c ∷ take n bytes)
token_reads c n kind bytes h =
    let t = stands_alone c n kind bytes h in
    let size : length (take n bytes) ≡ n = length-take-le n bytes t.within in
    record {
      first = c;
      rest = take n bytes;
      is = refl;
      alone = λ b y e. t.again b y e ∙ ap (Found kind) (sym size);
      on_line = t.on_line;
      end = ap (λ m. is_space (slice_index (c ∷ take n bytes) m)) size
          ∙ ap is_space (get_or-take (suc n) (c ∷ bytes) n 0 (omega arith))
          ∙ no_space (slice_index (c ∷ bytes) n) t.end;
    }

-- the pieces of a text
pub text_pieces : (bytes : List ℕ) (k : ℕ) (s : Standing) → ArePieces s (pieces_after k s bytes)
text_pieces [] k s = subst (ArePieces s) (sym (read_nil k s)) no_piece
text_pieces (c ∷ bytes) k s = go k s (text_pieces bytes)
  where
    skipped : ((k : ℕ) (s : Standing) → ArePieces s (pieces_after k s bytes)) → (s : Standing)
        → (is_blank c ≡ true) ⊎ (c ≡ 35) → ArePieces s (pieces_after 0 s (c ∷ bytes))
    skipped more s (inl e) = subst (ArePieces s) (sym (read_blank s c bytes e))
        (after_blank c s _ (more 0 (lowered c s)))
    skipped more s (inr e) = search (rules, read_hash, one_piece, comment_reads, reaches_itself)

    at : ((k : ℕ) (s : Standing) → ArePieces s (pieces_after k s bytes)) → (s : Standing) (f : Front)
        → front_of c bytes ≡ f → ArePieces s (pieces_after 0 s (c ∷ bytes))
    at more s (Skipped n) h = skipped more s (skipped_by c n bytes h)
    at more s (Found kind n) h = search (rules, read_token, one_piece, token_reads, reaches_itself)
    at more s (Refused f) h = subst (ArePieces s) (sym (read_refused s c bytes f h)) no_piece
    at more s Unfinished h = subst (ArePieces s) (sym (read_unfinished s c bytes h)) no_piece

    go : (k : ℕ) (s : Standing) → ((k : ℕ) (s : Standing) → ArePieces s (pieces_after k s bytes))
        → ArePieces s (pieces_after k s (c ∷ bytes))
    go zero s more = at more s (front_of c bytes) refl
    go (suc k) s more = subst (ArePieces s) (sym (read_one k s c bytes)) (more k s)
