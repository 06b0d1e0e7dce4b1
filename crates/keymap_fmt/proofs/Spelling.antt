-- The tokens among the pieces are those of the text, so what is written spells what the text spells.
use Rattle.keymap_fmt.proofs.Common.{rules, ◌≡◌, ◌⊎◌, inl, inr, ℕ, zero, suc, ◌+◌, Bool, true, false, List, []}
use Rattle.keymap_fmt.proofs.Common.{◌∷◌, ◌++◌, length, take, map, refl, sym, ◌∙◌, ap, subst, arith, add-one}
use Rattle.keymap_fmt.proofs.Common.{Ok, nat_tests, flat_map, TextFaultKind, TokenKind, State, Standing}
use Rattle.keymap_fmt.proofs.Common.{AtTop, Part, Comment, Code, is_blank, stays_on_line, leading, front_of, Front}
use Rattle.keymap_fmt.proofs.Common.{Skipped, Found, Refused, Unfinished, TokenValue, tokens_after, PieceValue}
use Rattle.keymap_fmt.proofs.Common.{pieces_after, pieces, behind, before, after, line_end, start, rendered_from}
use Rattle.keymap_fmt.proofs.Common.{formatted, rendered, part_and_bytes, leading_pass, leading_fail, skipped_by}
use Rattle.keymap_text.specs.Meaning.{list_of, ending_of_tokens, tokens, items, item_of, ending, Spells}
use Rattle.keymap_text.specs.Rows.{IsRow}
use Rattle.keymap_text.specs.Words.{item}
use Rattle.keymap_core.specs.Maps.{MapValue}
use Rattle.keymap_fmt.specs.Layout.{ending as ending_of_part}
use Rattle.keymap_fmt.specs.Same.{kind_and_bytes, token_in, token_of}
use Rattle.keymap_text.proofs.Shared.{split_blank, split_comment, split_nil, split_one}
use Rattle.keymap_fmt.proofs.Leading.{leading_ended}
use Rattle.keymap_fmt.proofs.Reading.{BeginsBlank, ReadsToken, ReadsComment, read_nil, read_one, read_blank, read_hash}
use Rattle.keymap_fmt.proofs.Reading.{read_token, read_refused, read_unfinished}
use Rattle.keymap_fmt.proofs.Texts.{ArePieces, no_piece, one_piece, Reads, text_pieces}
use Rattle.keymap_fmt.proofs.Written.{AreBlanks, before_blanks, after_at, rendered_blank}
use Rattle.keymap_fmt.proofs.Again.{parts_stay}

-- the kinds and bytes of the first token, and of those behind it
token_in_front : (q c n : ℕ) (kind : TokenKind) (bytes : List ℕ) → front_of c bytes ≡ Found kind n
    → map kind_and_bytes (list_of (tokens_after 0 q (c ∷ bytes)))
    ≡ (kind, c ∷ take n bytes) ∷ map kind_and_bytes (list_of (tokens_after n (q + 1) bytes))
unfolding tokens_after list_of
token_in_front q c n kind bytes h = rw (h, tokens_after, list_of) refl

ending_behind : (q c n : ℕ) (kind : TokenKind) (bytes : List ℕ) → front_of c bytes ≡ Found kind n
    → ending_of_tokens (tokens_after 0 q (c ∷ bytes)) ≡ ending_of_tokens (tokens_after n (q + 1) bytes)
unfolding tokens_after ending_of_tokens
ending_behind q c n kind bytes h = rw (h, tokens_after, ending_of_tokens) refl

no_tokens : (k q : ℕ) → list_of (tokens_after k q []) ≡ []
unfolding list_of
no_tokens k q = ap list_of (split_nil k q)

refused_front : (q c : ℕ) (f : TextFaultKind) (bytes : List ℕ) → front_of c bytes ≡ Refused f
    → list_of (tokens_after 0 q (c ∷ bytes)) ≡ []
unfolding tokens_after list_of
refused_front q c f bytes h = rw (h, tokens_after, list_of) refl

unfinished_front : (q c : ℕ) (bytes : List ℕ) → front_of c bytes ≡ Unfinished
    → list_of (tokens_after 0 q (c ∷ bytes)) ≡ []
unfolding tokens_after list_of
unfinished_front q c bytes h = rw (h, tokens_after, list_of) refl

-- the end of a line is no token
pub line_passed : (q : ℕ) (bytes : List ℕ) → tokens_after (leading stays_on_line bytes) q bytes
    ≡ tokens_after (suc (leading stays_on_line bytes)) q bytes
line_passed q [] = split_nil _ q ∙ sym (split_nil _ q)
line_passed q (c ∷ bytes) = go (stays_on_line c) refl (line_passed (q + 1) bytes)
  where
    ends : (c : ℕ) → stays_on_line c ≡ false → is_blank c ≡ true
    ends c h = grind (arith, nat_tests)

    go : (b : Bool) → stays_on_line c ≡ b → tokens_after (leading stays_on_line bytes) (q + 1) bytes
        ≡ tokens_after (suc (leading stays_on_line bytes)) (q + 1) bytes
        → tokens_after (leading stays_on_line (c ∷ bytes)) q (c ∷ bytes)
        ≡ tokens_after (suc (leading stays_on_line (c ∷ bytes))) q (c ∷ bytes)
    go true e k = search (rules, leading_pass, add-one, split_one)
    go false e k = search (rules, leading_fail, split_blank, ends, split_one)

-- the tokens among the pieces are those of the bytes
pub piece_tokens : (bytes : List ℕ) (k q : ℕ) (s : Standing)
    → flat_map token_of (pieces_after k s bytes) ≡ map kind_and_bytes (list_of (tokens_after k q bytes))
piece_tokens [] k q s = ap (flat_map token_of) (read_nil k s) ∙ sym (ap (map kind_and_bytes) (no_tokens k q))
piece_tokens (c ∷ bytes) k q s = go k q s (piece_tokens bytes)
  where
    skipped : ((k q : ℕ) (s : Standing) → flat_map token_of (pieces_after k s bytes)
        ≡ map kind_and_bytes (list_of (tokens_after k q bytes))) → (q : ℕ) (s : Standing)
        → (is_blank c ≡ true) ⊎ (c ≡ 35)
        → flat_map token_of (pieces_after 0 s (c ∷ bytes))
        ≡ map kind_and_bytes (list_of (tokens_after 0 q (c ∷ bytes)))
    skipped more q s (inl e) = search (rules, read_blank, split_blank)
    skipped more q s (inr e) = search (rules, read_hash, split_comment, line_passed)

    at : ((k q : ℕ) (s : Standing) → flat_map token_of (pieces_after k s bytes)
        ≡ map kind_and_bytes (list_of (tokens_after k q bytes))) → (q : ℕ) (s : Standing) (f : Front)
        → front_of c bytes ≡ f → flat_map token_of (pieces_after 0 s (c ∷ bytes))
        ≡ map kind_and_bytes (list_of (tokens_after 0 q (c ∷ bytes)))
    at more q s (Skipped n) h = skipped more q s (skipped_by c n bytes h)
    at more q s (Found kind n) h = search (rules, read_token, token_in_front)
    at more q s (Refused f) h = search (rules, read_refused, refused_front)
    at more q s Unfinished h = search (rules, read_unfinished, unfinished_front)

    go : (k q : ℕ) (s : Standing) → ((k q : ℕ) (s : Standing) → flat_map token_of (pieces_after k s bytes)
        ≡ map kind_and_bytes (list_of (tokens_after k q bytes)))
        → flat_map token_of (pieces_after k s (c ∷ bytes))
        ≡ map kind_and_bytes (list_of (tokens_after k q (c ∷ bytes)))
    go zero q s more = at more q s (front_of c bytes) refl
    go (suc k) q s more = search (rules, read_one, split_one)

pub tokens_of_pieces : (text : List ℕ)
    → flat_map token_of (pieces text) ≡ map kind_and_bytes (tokens text)
tokens_of_pieces text = piece_tokens text 0 0 AtTop

-- tokens are told by the parts
pub in_parts : (ps : List PieceValue)
    → flat_map (λ (p : Part × List ℕ). token_in p.0 p.1) (map part_and_bytes ps) ≡ flat_map token_of ps
in_parts [] = refl
in_parts (p ∷ ps) = ap (λ (ts : List (TokenKind × List ℕ)). token_in p.part p.bytes ++ ts) (in_parts ps)

pub tokens_stay : (text : List ℕ)
    → map kind_and_bytes (tokens (formatted text)) ≡ map kind_and_bytes (tokens text)
tokens_stay text =
    sym (tokens_of_pieces (formatted text)) ∙ sym (in_parts (pieces (formatted text)))
    ∙ ap (flat_map (λ (p : Part × List ℕ). token_in p.0 p.1)) (parts_stay text) ∙ in_parts (pieces text)
    ∙ tokens_of_pieces text

-- equal lists are equal with an element more in front
one_more : {A : Type 0} (x : A) (xs ys : List A) → xs ≡ ys → x ∷ xs ≡ x ∷ ys
one_more {A = A} x xs ys h = ap (λ (zs : List A). x ∷ zs) h

-- equal kinds and bytes are equal items
pub item_of_both : (ts : List TokenValue)
    → map (λ (p : TokenKind × List ℕ). item p.0 p.1) (map kind_and_bytes ts) ≡ map item_of ts
item_of_both [] = refl
item_of_both (t ∷ ts) = one_more (item t.kind t.bytes) _ _ (item_of_both ts)

items_stay : (text : List ℕ) → items (formatted text) ≡ items text
items_stay text =
    sym (item_of_both (tokens (formatted text)))
    ∙ ap (map (λ (p : TokenKind × List ℕ). item p.0 p.1)) (tokens_stay text) ∙ item_of_both (tokens text)

-- The bytes are tokens to their end, behind the first k of them.
IsWhole : ℕ → List ℕ → Type 0
IsWhole k bytes = (q : ℕ) → (end : ℕ) × (ending_of_tokens (tokens_after k q bytes) ≡ Ok end)

whole_nil : IsWhole 0 []
unfolding IsWhole ending_of_tokens
whole_nil = λ q. (q, ap ending_of_tokens (split_nil 0 q))

whole_blank : (c : ℕ) (bytes : List ℕ) → is_blank c ≡ true → IsWhole 0 bytes → IsWhole 0 (c ∷ bytes)
unfolding IsWhole
whole_blank c bytes e h = λ q. let r = h (q + 1) in (r.0, ap ending_of_tokens (split_blank q c bytes e) ∙ r.1)

whole_blanks : (g y : List ℕ) → AreBlanks g → IsWhole 0 y → IsWhole 0 (g ++ y)
whole_blanks [] y b h = h
whole_blanks (c ∷ g) y b h = whole_blank c (g ++ y) b.0 (whole_blanks g y b.1 h)

-- bytes that are passed
whole_behind : (w y : List ℕ) → IsWhole 0 y → IsWhole (length w) (w ++ y)
unfolding IsWhole
whole_behind [] y h = h
whole_behind (c ∷ w) y h = go (whole_behind w y h)
  where
    go : ((q : ℕ) → (end : ℕ) × (ending_of_tokens (tokens_after (length w) q (w ++ y)) ≡ Ok end))
        → (q : ℕ) → (end : ℕ) × (ending_of_tokens (tokens_after (suc (length w)) q (c ∷ (w ++ y))) ≡ Ok end)
    go k q = let r = k (q + 1) in (r.0, ap ending_of_tokens (split_one (length w) q c (w ++ y)) ∙ r.1)

whole_token : (kind : TokenKind) (bytes y : List ℕ) → ReadsToken kind bytes → BeginsBlank y → IsWhole 0 y
    → IsWhole 0 (bytes ++ y)
unfolding IsWhole
whole_token kind bytes y r b h = λ q.
    let c = r.first in
    let w = r.rest in
    let found : front_of c (w ++ y) ≡ Found kind (length w) =
    ap (λ y. front_of c (w ++ y)) b.is ∙ r.alone b.first b.rest b.blank in
    let k = whole_behind w y h (q + 1) in (
      k.0,
      ap (λ t. ending_of_tokens (tokens_after 0 q (t ++ y))) r.is ∙ ending_behind q c (length w) kind (w ++ y) found
          ∙ k.1,
    )

whole_comment : (bytes y : List ℕ) → ReadsComment bytes → IsWhole 0 y → IsWhole 0 (bytes ++ 10 ∷ y)
unfolding IsWhole
whole_comment bytes y r h = λ q.
    let w = r.rest in
    let n : leading stays_on_line (w ++ 10 ∷ y) ≡ length w = leading_ended stays_on_line w 10 y r.on_line refl in
    let k = whole_behind w (10 ∷ y) (whole_blank 10 y refl h) (q + 1) in (
      k.0,
      ap (λ t. ending_of_tokens (tokens_after 0 q (t ++ 10 ∷ y))) r.is
          ∙ ap ending_of_tokens (split_comment q 35 (w ++ 10 ∷ y) refl)
          ∙ ap (λ n. ending_of_tokens (tokens_after n (q + 1) (w ++ 10 ∷ y))) n ∙ k.1,
    )

-- what is written is tokens to its end
whole_piece : (s : State) (part : Part) (bytes : List ℕ) (ps : List PieceValue) → Reads part bytes
    → IsWhole 0 (rendered_from (after s part bytes) ps)
    → IsWhole 0 (bytes ++ (ending_of_part part ++ rendered_from (after s part bytes) ps))
whole_piece s Comment bytes ps r h = whole_comment bytes _ r h
whole_piece s (Code kind) bytes ps r h =
    whole_token kind bytes _ r (rendered_blank (after s (Code kind) bytes) ps (after_at s (Code kind) bytes)) h

whole_end : (column : ℕ) → IsWhole 0 (line_end column)
whole_end column = search (rules, IsWhole, whole_nil, whole_blank)

whole_from : (s : State) (u : Standing) (ps : List PieceValue) → ArePieces u ps → IsWhole 0 (rendered_from s ps)
unfolding rendered_from
whole_from s u ps no_piece = whole_end s.column
whole_from s u qs (one_piece {ps = ps} p r h more) =
    whole_blanks (before s p.part p.bytes p.standing) _ (before_blanks s p.part p.bytes p.standing)
    (whole_piece s p.part p.bytes ps r (whole_from (after s p.part p.bytes) (behind p.part) ps more))

pub rendered_whole : (ps : List PieceValue) → ArePieces AtTop ps → (end : ℕ) × (ending (rendered ps) ≡ Ok end)
unfolding IsWhole
rendered_whole ps h = whole_from start AtTop ps h 0

-- the formatted text spells what the text spells
pub keymap_stays : (text : List ℕ) (m : MapValue) → Spells text m → Spells (formatted text) m
keymap_stays text m h =
    let end = rendered_whole (pieces text) (text_pieces text 0 AtTop) in
    record {
      definitions = h.definitions;
      row = subst (λ is. IsRow is h.definitions) (sym (items_stay text)) h.row;
      end = end.0;
      whole = end.1;
      map = h.map;
    }
