-- Where tokens and definitions stand in a text.
use Rattle.keymap_places.proofs.Common.{◌≡◌, ℕ, zero, suc, ◌+◌, ◌<◌, ◌≤◌, List, [], ◌∷◌, ◌++◌, length, take, drop, map}
use Rattle.keymap_places.proofs.Common.{refl, sym, ◌∙◌, ap, subst, arith, Option, Some, None, Ok, Err, IfSome, rules}
use Rattle.keymap_places.proofs.Common.{length-drop, append_assoc, drop-drop, length-take-le, TextFaultKind, EndInside}
use Rattle.keymap_places.proofs.Common.{TokenKind, Word, TextFault, Token, Span, Placed, Front, Skipped, Found, Refused}
use Rattle.keymap_places.proofs.Common.{Unfinished, front_of, tokens_after, TokenValue, Tokens, Ends, Stops, Then}
use Rattle.keymap_places.proofs.Common.{first}
use Rattle.keymap_places.proofs.Common.{token_before, token_view, result_view, span_of, begun, tokens_from, ComesNext}
use Rattle.keymap_places.proofs.Common.{list_of}
use Rattle.keymap_text.proofs.Shared.{Fits, front_fits, list_then, split_after, split_found, split_nil}
use Rattle.keymap_text.proofs.Shared.{split_one, split_refused, split_skipped, split_unfinished}

-- The first token t of bytes at q stands after j of them, and the others stand behind it.
pub record IsNext (q : ℕ) (bytes : List ℕ) (ts : Tokens) (t : TokenValue) (j : ℕ) : Type 0 where
  pub start : t.start ≡ q + j
  pub some : 0 < length t.bytes
  pub within : j + length t.bytes ≤ length bytes
  pub short : t.kind ≡ Word → length t.bytes ≤ 32
  pub tokens : ts ≡ Then t (tokens_after 0 (q + j + length t.bytes) (drop (j + length t.bytes) bytes))

none_first : (q : ℕ) (t : TokenValue) → first (Ends q) ≡ Ok (Some t) → ⊥
none_first q t h = cc

fault_first : (f : TextFaultKind) (q : ℕ) (t : TokenValue) → first (Stops f q) ≡ Ok (Some t) → ⊥
fault_first f q t h = cc

then_first : (u t : TokenValue) (ts : Tokens) → first (Then u ts) ≡ Ok (Some t) → u ≡ t
then_first u t ts h = cc

-- the next token is the same with a byte more in front
one_more : (q c : ℕ) (bytes : List ℕ) (ts : Tokens) (t : TokenValue) → (j : ℕ) × IsNext (q + 1) bytes ts t j
    → (j : ℕ) × IsNext q (c ∷ bytes) ts t j
one_more q c bytes ts t (j, h) =
    let n = length t.bytes in
    let place : q + 1 + j + n ≡ q + suc j + n = omega arith in
    let index : suc (j + n) ≡ suc j + n = omega arith in (
      suc j,
      record {
        start = omega (arith, h.start);
        some = h.some;
        within = omega (arith, h.within);
        short = h.short;
        tokens =
            h.tokens ∙ ap (λ p. Then t (tokens_after 0 p (drop (j + n) bytes))) place
            ∙ ap (λ i. Then t (tokens_after 0 (q + suc j + n) (drop i (c ∷ bytes)))) index;
      },
    )

-- the first token in front
found_next : (q c n : ℕ) (kind : TokenKind) (bytes : List ℕ) (t : TokenValue) → front_of c bytes ≡ Found kind n
    → token_before kind (c ∷ take n bytes) q (drop n bytes) ≡ t
    → IsNext q (c ∷ bytes) (tokens_after 0 q (c ∷ bytes)) t 0
found_next q c n kind bytes t h e =
    let f : Fits kind n bytes = front_fits c bytes kind n h in
    let l : length (take n bytes) ≡ n = length-take-le n bytes f.within in
    let within : n ≤ length bytes = f.within in
    let u : TokenValue = token_before kind (c ∷ take n bytes) q (drop n bytes) in
    let place : q + 1 + n ≡ q + 0 + suc (length (take n bytes)) = omega (arith, l) in
    let index : suc n ≡ 0 + suc (length (take n bytes)) = omega (arith, l) in
    subst (λ (t : TokenValue). IsNext q (c ∷ bytes) (tokens_after 0 q (c ∷ bytes)) t 0) e (record {
      start = omega arith;
      some = omega arith;
      within = omega (arith, l, within);
      short = λ w. let s : n < 32 = f.short w in omega (arith, l, s);
      tokens =
          split_found q c n kind bytes h ∙ ap (λ ts. Then u ts) (split_after n (q + 1) bytes within)
          ∙ ap (λ p. Then u (tokens_after 0 p (drop n bytes))) place
          ∙ ap (λ i. Then u (tokens_after 0 (q + 0 + suc (length (take n bytes))) (drop i (c ∷ bytes)))) index;
    })

pub next_is : (bytes : List ℕ) (k q : ℕ) (t : TokenValue) → first (tokens_after k q bytes) ≡ Ok (Some t)
    → (j : ℕ) × IsNext q bytes (tokens_after k q bytes) t j
next_is [] k q t h = absurd (none_first q t (sym (ap first (split_nil k q)) ∙ h))
next_is (c ∷ bytes) (suc k) q t h =
    subst (λ (ts : Tokens). (j : ℕ) × IsNext q (c ∷ bytes) ts t j) (sym (split_one k q c bytes))
    (one_more q c bytes (tokens_after k (q + 1) bytes) t
    (next_is bytes k (q + 1) t (sym (ap first (split_one k q c bytes)) ∙ h)))
next_is (c ∷ bytes) zero q t h = go (front_of c bytes) refl (λ n. next_is bytes n (q + 1) t)
  where
    go : (f : Front) → front_of c bytes ≡ f
        → ((n : ℕ) → first (tokens_after n (q + 1) bytes) ≡ Ok (Some t) → (j : ℕ)
        × IsNext (q + 1) bytes (tokens_after n (q + 1) bytes) t j)
        → (j : ℕ) × IsNext q (c ∷ bytes) (tokens_after 0 q (c ∷ bytes)) t j
    go (Skipped n) e ih =
        subst (λ (ts : Tokens). (j : ℕ) × IsNext q (c ∷ bytes) ts t j) (sym (split_skipped q c n bytes e))
        (one_more q c bytes (tokens_after n (q + 1) bytes) t (ih n (sym (ap first (split_skipped q c n bytes e)) ∙ h)))
    go (Found kind n) e ih = search (rules, found_next, then_first, split_found)
    go (Refused f) e ih = absurd (fault_first f q t (sym (ap first (split_refused q c f bytes e)) ∙ h))
    go Unfinished e ih =
        absurd (fault_first EndInside (q + 1 + length bytes) t (sym (ap first (split_unfinished q c bytes e)) ∙ h))

-- The first token from a place on, and the place behind it.
pub record IsToken (text : List ℕ) (at : ℕ) (t : TokenValue) : Type 0 where
  pub behind : at ≤ t.start
  pub some : 0 < length t.bytes
  pub within : t.start + length t.bytes ≤ length text
  pub short : t.kind ≡ Word → length t.bytes ≤ 32
  pub tokens : tokens_after 0 at (drop at text)
      ≡ Then t (tokens_after 0 (t.start + length t.bytes) (drop (t.start + length t.bytes) text))

pub token_at : (text : List ℕ) (at : ℕ) (t : TokenValue) → at ≤ length text
    → first (tokens_after 0 at (drop at text)) ≡ Ok (Some t) → IsToken text at t
token_at text at t l h = grind (arith, drop-drop, length-drop, next_is)

-- where no first token is, no tokens are
pub no_tokens : (ts : Tokens) → first ts ≡ Ok None → list_of ts ≡ []
unfolding list_of
no_tokens ts h = grind arith

pub no_more : (ts : Tokens) (f : TextFaultKind) (q : ℕ) → first ts ≡ Err (f, q) → list_of ts ≡ []
unfolding list_of
no_more ts f q h = grind arith

-- what the search for a token found
pub found_at : (text : List ℕ) (at : ℕ) (o : Option Token) → at ≤ length text
    → result_view text (Ok o) ≡ first (tokens_after 0 at (drop at text))
    → IfSome o (λ t. t.span.end ≡ t.span.start + length t.slice.now) → ComesNext text at o
found_at text at None l h s = no_tokens (tokens_after 0 at (drop at text)) (sym h)
found_at text at (Some t) l h e =
    let f : IsToken text at (token_view text t) = token_at text at (token_view text t) l (sym h) in
    record {
      ends = omega (arith, e, f.behind, f.some);
      within = omega (arith, e, f.within);
      short = f.short;
      span = ap (λ end. record { start = t.span.start; end = end }) (sym e);
      others =
          ap list_of f.tokens ∙ list_then (token_view text t) _
          ∙ ap (λ end. token_view text t ∷ tokens_from text end) (sym e);
    }

-- no token stands at a fault
pub fault_at : (text : List ℕ) (at : ℕ) (f : TextFault)
    → result_view text (Err f) ≡ first (tokens_after 0 at (drop at text)) → tokens_from text at ≡ []
fault_at text at f h = no_more (tokens_after 0 at (drop at text)) f.kind f.offset (sym h)

-- the spans so far, and those to come
pub spans_on : (xs ys all : List Span) (s : Span) (text : List ℕ) (at end : ℕ) (t : TokenValue) → ys ≡ xs ++ s ∷ []
    → span_of t ≡ s → tokens_from text at ≡ t ∷ tokens_from text end → xs ++ map span_of (tokens_from text at) ≡ all
    → ys ++ map span_of (tokens_from text end) ≡ all
spans_on xs ys all s text at end t e i others h = grind (arith, append_assoc)

-- the definitions so far, and those to come
pub begun_on : (xs ys all : List Placed) (left rest n m k : ℕ) (text : List ℕ) (at end : ℕ) (t : TokenValue) → k ≡ n
    → m ≡ n + 1 → tokens_from text at ≡ t ∷ tokens_from text end → xs ++ begun left n (tokens_from text at) ≡ all
    → xs ++ begun left k (t ∷ tokens_from text end) ≡ ys ++ begun rest (k + 1) (tokens_from text end)
    → ys ++ begun rest m (tokens_from text end) ≡ all
begun_on xs ys all left rest n m k text at end t e f others h step = grind arith

-- where no tokens are, nothing begins
pub begun_none : (left n : ℕ) → begun left n [] ≡ []
unfolding begun
begun_none left n = grind arith
