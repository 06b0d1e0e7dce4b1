-- What the search for a piece finds at a place of the text.
use Rattle.keymap_fmt.proofs.Common.{rules, ◌≡◌, ℕ, zero, suc, ◌+◌, ◌-◌, ◌<◌, ◌≤◌, Bool, true, false, List, []}
use Rattle.keymap_fmt.proofs.Common.{◌∷◌, length, take, drop, get_or, refl, sym, ◌∙◌, ap, subst, arith, add-one, Option}
use Rattle.keymap_fmt.proofs.Common.{Some, None, Ok, true≢false, ◌⊎◌, ⊎_elim, nat_tests, drop-drop, length-take-le}
use Rattle.keymap_fmt.proofs.Common.{TextFaultKind, TokenKind, Standing, Beside, Below, Comment, Code, is_blank}
use Rattle.keymap_fmt.proofs.Common.{is_space, stays_on_line, leading, front_of, Front, Skipped, Found, Refused}
use Rattle.keymap_fmt.proofs.Common.{Unfinished, TokenValue, tokens_after, stands_alone, leading_pass, leading_fail}
use Rattle.keymap_fmt.proofs.Common.{PieceValue, pieces_after, lowered, trimmed, width}
use Rattle.std.proofs.Common.{◌≢◌, drop-cons, Result, Err, length-drop}
use Rattle.std.specs.Prelude.{IsFalse}
use Rattle.std.proofs.lemmas.List.{at_drop_all}
use Rattle.keymap_text.specs.declared.fault.TextFaultKind.TheVariants.{EndInside}
use Rattle.keymap_text.specs.declared.token.TokenKind.TheVariants.{ParenL, ParenR, Literal, Word}
use Rattle.keymap_text.specs.declared.token.Token.{Token}
use Rattle.keymap_text.specs.Lexical.{separates, Tokens, Stops, Then, token_before, first}
use Rattle.keymap_text.specs.Tokens.{token_view}
use Rattle.keymap_text.proofs.Shared.{front_fits, skipped_separates, split_found, split_refused}
use Rattle.keymap_text.proofs.Shared.{split_unfinished}
use Rattle.keymap_fmt.specs.Inner.Reading.{ComesNext}
use Rattle.keymap_fmt.proofs.Reading.{read_after, read_nil, read_blank, read_hash, read_token, read_refused}
use Rattle.keymap_fmt.proofs.Reading.{read_unfinished}

-- a blank at a place
pub blank_at : (text : List ℕ) (i : ℕ) (s : Standing) → i < length text → is_blank (get_or text i 0) ≡ true
    → pieces_after 0 s (drop i text) ≡ pieces_after 0 (lowered (get_or text i 0) s) (drop (i + 1) text)
blank_at text i s l h = search (rules, drop-cons, read_blank, add-one)

-- nothing stands at the end
pub nothing_at : (text : List ℕ) (i : ℕ) (s : Standing) → length text ≤ i → pieces_after 0 s (drop i text) ≡ []
nothing_at text i s l = at_drop_all (pieces_after 0 s) text i l ∙ read_nil 0 s

-- the place behind a line, and the end of the text
pub next_line : (text : List ℕ) (end next : ℕ) (s : Standing) → (next ≡ end + 1) ⊎ ((next ≡ end) × (length text ≤ end))
    → pieces_after 0 s (drop (end + 1) text) ≡ pieces_after 0 s (drop next text)
next_line text end next s h = search (rules, ⊎_elim, nothing_at)

-- a comment at a place
comment_at : (text : List ℕ) (at end : ℕ) (s : Standing) → at < length text → get_or text at 0 ≡ 35
    → end ≡ at + 1 + leading stays_on_line (drop (at + 1) text)
    → pieces_after 0 s (drop at text)
    ≡ record { part = Comment; bytes = trimmed (take (end - at) (drop at text)); standing = s }
    ∷ pieces_after 0 Below (drop (end + 1) text)
comment_at text at end s l h e =
    let c = get_or text at 0 in
    let rest = drop (at + 1) text in
    let n = leading stays_on_line rest in
    let front : drop at text ≡ c ∷ rest = drop-cons text at 0 l ∙ ap (λ i. c ∷ drop i text) (sym (add-one at)) in
    let size : end - at ≡ suc n = omega (arith, e) in
    let far : drop (suc n) rest ≡ drop (end + 1) text =
    drop-drop (suc n) (at + 1) text ∙ ap (λ i. drop i text) (omega (arith, e)) in
    ap (pieces_after 0 s) front ∙ read_hash s c rest h
    ∙ ap (λ (t : List ℕ). record { part = Comment; bytes = trimmed t; standing = s } ∷ pieces_after (suc n) Below rest)
    (sym (ap (take (end - at)) front ∙ ap (λ m. take m (c ∷ rest)) size))
    ∙ ap (λ (ps : List PieceValue). record {
      part = Comment;
      bytes = trimmed (take (end - at) (drop at text));
      standing = s;
    } ∷ ps)
    (read_after (suc n) Below rest ∙ ap (pieces_after 0 Below) far)

-- a comment with its bytes as they were cut, and the place behind it
pub comment_found : (text w : List ℕ) (at end next : ℕ) (s : Standing) → at < length text → get_or text at 0 ≡ 35
    → end ≡ at + 1 + leading stays_on_line (drop (at + 1) text) → w ≡ trimmed (take (end - at) (drop at text))
    → (next ≡ end + 1) ⊎ ((next ≡ end) × (length text ≤ end))
    → pieces_after 0 s (drop at text)
    ≡ record { part = Comment; bytes = w; standing = s } ∷ pieces_after 0 Below (drop next text)
comment_found text w at end next s l h e f g = search (rules, comment_at, next_line)

-- blanks that end no line leave what follows where it stands
pub spaces_passed : (n : ℕ) (s : Standing) (bytes : List ℕ) → n ≤ leading is_space bytes
    → pieces_after 0 s bytes ≡ pieces_after 0 s (drop n bytes)
spaces_passed zero s bytes h = refl
spaces_passed (suc n) s [] h = absurd (omega (arith, h))
spaces_passed (suc n) s (c ∷ bytes) h =
    search (rules, nat_tests, read_blank, leading_pass, leading_fail, spaces_passed n s bytes)

-- a byte with no such blank in front that ends no line and begins no comment begins a token, or none stands there
pub begins_token : (text : List ℕ) (i : ℕ) → i < length text → leading is_space (drop i text) ≡ 0
    → get_or text i 0 ≢ 10 → get_or text i 0 ≢ 35 → IsFalse (separates (get_or text i 0))
begins_token text i l none end hash = search (rules, nat_tests, drop-cons, leading_pass)

-- is it a token?
abbrev pub is_token : Result (Option TokenValue) (TextFaultKind × ℕ) → Bool
is_token (Ok (Some t)) = true
is_token (Ok None) = false
is_token (Err f) = false

-- a token of n + 1 bytes at a place
pub record TokenAt (text : List ℕ) (at : ℕ) (s : Standing) (t : TokenValue) : Type 0 where
  pub within : at + length t.bytes ≤ length text
  pub some : 0 < length t.bytes
  pub start : t.start ≡ at
  pub wide : width t.kind t.bytes ≤ length t.bytes
  pub short : t.kind ≡ Word → length t.bytes ≤ 32
  pub pieces : pieces_after 0 s (drop at text)
      ≡ record { part = Code t.kind; bytes = t.bytes; standing = s }
      ∷ pieces_after 0 Beside (drop (at + length t.bytes) text)

-- a literal has three bytes
token_width : (kind : TokenKind) (c n : ℕ) (rest : List ℕ) → front_of c rest ≡ Found kind n
    → width kind (c ∷ take n rest) ≤ length (c ∷ take n rest)
token_width (Literal d) c n rest h =
    let alone = stands_alone c n (Literal d) rest h in
    omega (arith, alone.wide, length-take-le n rest alone.within)
token_width ParenL c n rest h = omega arith
token_width ParenR c n rest h = omega arith
token_width Word c n rest h = omega arith

-- a place at which neither a blank nor a comment begins
module _ (text : List ℕ) (at : ℕ) (s : Standing) (l : at < length text)
    (stands : separates (get_or text at 0) ≡ false) where
  abbrev c : ℕ
  c = get_or text at 0

  abbrev rest : List ℕ
  rest = drop (suc at) text

  front : drop at text ≡ c ∷ rest
  front = drop-cons text at 0 l

  not_skipped : (n : ℕ) → front_of c rest ≡ Skipped n → ⊥
  not_skipped n e = true≢false (sym (skipped_separates c n rest e) ∙ stands)

  token_there : (kind : TokenKind) (n : ℕ) → front_of c rest ≡ Found kind n
      → TokenAt text at s (token_before kind (c ∷ take n rest) at (drop n rest))
  token_there kind n f =
      let fits = front_fits c rest kind n f in
      let m : n ≤ length rest = fits.within in
      let size : length (take n rest) ≡ n = length-take-le n rest m in
      let far : drop n rest ≡ drop (at + suc (length (take n rest))) text =
      drop-drop n (suc at) text ∙ ap (λ i. drop i text) (omega (arith, size)) in
      record {
        within = omega (arith, size, length-drop (suc at) text, m, l);
        some = omega arith;
        start = refl;
        wide = token_width kind c n rest f;
        short = λ w. let few : n < 32 = fits.short w in omega (arith, size, few);
        pieces = ap (pieces_after 0 s) front ∙ read_token s c rest kind n f
            ∙ ap (λ (ps : List PieceValue). record { part = Code kind; bytes = c ∷ take n rest; standing = s } ∷ ps)
            (read_after n Beside rest ∙ ap (pieces_after 0 Beside) far);
      }

  -- the token that is found
  token_found : (t : TokenValue) → Ok (Some t) ≡ first (tokens_after 0 at (drop at text)) → TokenAt text at s t
  token_found t e = go (front_of c rest) refl
    where
      here : (ts : Tokens) → tokens_after 0 at (c ∷ rest) ≡ ts → Ok (Some t) ≡ first ts
      here ts h = e ∙ ap (λ b. first (tokens_after 0 at b)) front ∙ ap first h

      then_first : (u : TokenValue) (ts : Tokens) → Ok (Some t) ≡ first (Then u ts) → u ≡ t
      then_first u ts h = cc

      stops_first : (f : TextFaultKind) (q : ℕ) → Ok (Some t) ≡ first (Stops f q) → ⊥
      stops_first f q h = cc

      go : (f : Front) → front_of c rest ≡ f → TokenAt text at s t
      go (Skipped n) f = absurd (not_skipped n f)
      go (Found kind n) f =
          let u : TokenValue = token_before kind (c ∷ take n rest) at (drop n rest) in
          let ts = tokens_after n (at + 1) rest in
          subst (TokenAt text at s) (then_first u ts (here (Then u ts) (split_found at c n kind rest f)))
          (token_there kind n f)
      go (Refused g) f = absurd (stops_first g at (here (Stops g at) (split_refused at c g rest f)))
      go Unfinished f =
          let q = at + 1 + length rest in
          absurd (stops_first EndInside q (here (Stops EndInside q) (split_unfinished at c rest f)))

  -- where none is found, no piece stands
  pub none_found : (r : Result (Option TokenValue) (TextFaultKind × ℕ))
      → r ≡ first (tokens_after 0 at (drop at text)) → is_token r ≡ false → pieces_after 0 s (drop at text) ≡ []
  none_found r e n = ap (pieces_after 0 s) front ∙ go (front_of c rest) refl
    where
      here : (ts : Tokens) → tokens_after 0 at (c ∷ rest) ≡ ts → is_token (first ts) ≡ false
      here ts h = sym (ap is_token (e ∙ ap (λ b. first (tokens_after 0 at b)) front ∙ ap first h)) ∙ n

      go : (f : Front) → front_of c rest ≡ f → pieces_after 0 s (c ∷ rest) ≡ []
      go (Skipped n) f = absurd (not_skipped n f)
      go (Found kind n) f = absurd (true≢false (here _ (split_found at c n kind rest f)))
      go (Refused g) f = read_refused s c rest g f
      go Unfinished f = read_unfinished s c rest f

  -- the token that is found, as a piece
  pub piece_found : (t : Token) → Ok (Some (token_view text t)) ≡ first (tokens_after 0 at (drop at text))
      → t.span.end ≡ t.span.start + length t.slice.now
      → ComesNext text at s (record { part = Code t.kind; bytes = t.slice; standing = s; end = t.span.end })
  piece_found t e f =
      let k = token_found (token_view text t) e in
      record {
        ends = omega (arith, k.some, k.start, f);
        within = omega (arith, k.within, k.start, f);
        bytes = k.wide;
        short = k.short;
        others = k.pieces ∙ ap (λ n. record { part = Code t.kind; bytes = t.slice.now; standing = s }
            ∷ pieces_after 0 Beside (drop n text)) (omega (arith, k.start, f));
      }
