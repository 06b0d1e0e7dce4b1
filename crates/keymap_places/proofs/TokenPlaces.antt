-- The bytes of a token are those of the text at its place.
use Rattle.keymap_places.proofs.Common.{◌≡◌, ℕ, zero, suc, ◌+◌, ◌≤◌, List, [], ◌∷◌, length, take, drop, refl, sym, ◌∙◌}
use Rattle.keymap_places.proofs.Common.{ap, subst, arith, All, length-take-le, TokenKind, Front, Skipped, rules}
use Rattle.keymap_places.proofs.Common.{Found, Refused, Unfinished, front_of, tokens_after, TokenValue, Tokens}
use Rattle.keymap_places.proofs.Common.{token_before, list_of, tokens, IsPlaced}
use Rattle.std.proofs.lemmas.List.Elements.{All-nil, All-cons, All-weaker}
use Rattle.std.proofs.lemmas.List.Kept.{AllPairs-cons}
use Rattle.std.specs.Prelude.{AllPairs}
use Rattle.keymap_places.specs.Same.{TokensAreInOrder}
use Rattle.keymap_places.proofs.Common.{◌<◌}
use Rattle.keymap_text.proofs.Shared.{front_fits, list_ends, list_stops, list_then, split_found, split_nil}
use Rattle.keymap_text.proofs.Shared.{split_one, split_refused, split_skipped, split_unfinished}

abbrev IsBefore : TokenValue → TokenValue → Type 0
IsBefore s t = s.start < t.start

-- the token is one of these bytes, which stand at q
record Among (q : ℕ) (bytes : List ℕ) (t : TokenValue) : Type 0 where
  skipped : ℕ
  start : t.start ≡ q + skipped
  within : skipped + length t.bytes ≤ length bytes
  there : take (length t.bytes) (drop skipped bytes) ≡ t.bytes

one_more : (q c : ℕ) (bytes : List ℕ) (t : TokenValue) → Among (q + 1) bytes t → Among q (c ∷ bytes) t
one_more q c bytes t h = record {
  skipped = suc h.skipped;
  start = omega (arith, h.start);
  within = omega (arith, h.within);
  there = h.there;
}

in_front : (q c n : ℕ) (kind : TokenKind) (bytes : List ℕ) → front_of c bytes ≡ Found kind n
    → Among q (c ∷ bytes) (token_before kind (c ∷ take n bytes) q (drop n bytes))
in_front q c n kind bytes h = grind (arith, front_fits, length-take-le)

none_of : (P : TokenValue → Type 0) (ts : Tokens) → list_of ts ≡ [] → All P (list_of ts)
none_of P ts e = subst (All P) (sym e) (All-nil P)

all_among : (bytes : List ℕ) (k q : ℕ) → All (Among q bytes) (list_of (tokens_after k q bytes))
all_among [] k q = none_of (Among q []) (tokens_after k q []) (ap list_of (split_nil k q) ∙ list_ends q)
all_among (c ∷ bytes) (suc k) q =
    search (rules, split_one, All-weaker, one_more, all_among bytes k (q + 1))
all_among (c ∷ bytes) zero q = go (front_of c bytes) refl (λ n. all_among bytes n (q + 1))
  where
    later : (n : ℕ) → All (Among (q + 1) bytes) (list_of (tokens_after n (q + 1) bytes))
        → All (Among q (c ∷ bytes)) (list_of (tokens_after n (q + 1) bytes))
    later n h = search (rules, All-weaker, one_more)

    go : (f : Front) → front_of c bytes ≡ f
        → ((n : ℕ) → All (Among (q + 1) bytes) (list_of (tokens_after n (q + 1) bytes)))
        → All (Among q (c ∷ bytes)) (list_of (tokens_after 0 q (c ∷ bytes)))
    go (Skipped n) e ih =
        subst (λ ts. All (Among q (c ∷ bytes)) (list_of ts)) (sym (split_skipped q c n bytes e)) (later n (ih n))
    go (Found kind n) e ih = search (rules, split_found, list_then, All-cons, in_front, later)
    go (Refused f) e ih = search (rules, none_of, split_refused, list_stops)
    go Unfinished e ih = search (rules, none_of, split_unfinished, list_stops)

pub tokens_are_placed : (text : List ℕ) → All (IsPlaced text) (tokens text)
tokens_are_placed text = All-weaker (Among 0 text) (IsPlaced text) placed (tokens text) (all_among text 0 0)
  where
    placed : (t : TokenValue) → Among 0 text t → IsPlaced text t
    placed t h = search rules

-- ---- tokens in order

none_in_order : (ts : Tokens) → list_of ts ≡ [] → AllPairs IsBefore (list_of ts)
none_in_order ts e = subst (AllPairs IsBefore) (sym e) (λ i j d low few. absurd (omega (arith, few)))

in_order : (bytes : List ℕ) (k q : ℕ) → AllPairs IsBefore (list_of (tokens_after k q bytes))
in_order [] k q = none_in_order (tokens_after k q []) (ap list_of (split_nil k q) ∙ list_ends q)
in_order (c ∷ bytes) (suc k) q = search (rules, split_one, in_order bytes k (q + 1))
in_order (c ∷ bytes) zero q = go (front_of c bytes) refl (λ n. in_order bytes n (q + 1))
  where
    go : (f : Front) → front_of c bytes ≡ f
        → ((n : ℕ) → AllPairs IsBefore (list_of (tokens_after n (q + 1) bytes)))
        → AllPairs IsBefore (list_of (tokens_after 0 q (c ∷ bytes)))
    go (Skipped n) e ih =
        subst (λ ts. AllPairs IsBefore (list_of ts)) (sym (split_skipped q c n bytes e)) (ih n)
    go (Found kind n) e ih =
        let t : TokenValue = token_before kind (c ∷ take n bytes) q (drop n bytes) in
        let rest : List TokenValue = list_of (tokens_after n (q + 1) bytes) in
        subst (AllPairs IsBefore)
        (sym (ap list_of (split_found q c n kind bytes e) ∙ list_then t (tokens_after n (q + 1) bytes)))
        (AllPairs-cons IsBefore t rest
        (All-weaker (Among (q + 1) bytes) (IsBefore t) (λ s h. omega (arith, h.start)) rest
        (all_among bytes n (q + 1))) (ih n))
    go (Refused f) e ih = search (rules, none_in_order, split_refused, list_stops)
    go Unfinished e ih = search (rules, none_in_order, split_unfinished, list_stops)

pub tokens_are_in_order : TokensAreInOrder
tokens_are_in_order text = in_order text 0 0
