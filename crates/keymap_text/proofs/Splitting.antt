-- What a text splits into, step by step.
use Rattle.keymap_text.proofs.Common.{◌≡◌, ℕ, zero, suc, ◌+◌, ◌-◌, ◌<◌, ◌≤◌, true, List, [], ◌∷◌, length, take, drop}
use Rattle.keymap_text.proofs.Common.{get_or, refl, sym, ◌∙◌, ap, arith, add-zero, drop-cons, length-drop, take_all}
use Rattle.keymap_text.proofs.Common.{take_at, drop_at, ◌++◌, drop-drop, drop_all, TextFaultKind, EndInside, TokenKind}
use Rattle.keymap_text.proofs.Common.{leading, stays_on_line, is_blank, Front, Skipped, Found, Refused, Unfinished}
use Rattle.keymap_text.proofs.Common.{front_of, tokens_after, Ends, Stops, Then, token_before}
use Rattle.keymap_text.proofs.InFront.{front_blank, front_comment, front_fits}
use Rattle.keymap_text.proofs.Leading.{leading_le}

-- a byte that is passed
pub split_one : (n q c : ℕ) (bytes : List ℕ) → tokens_after (suc n) q (c ∷ bytes) ≡ tokens_after n (q + 1) bytes
unfolding tokens_after
split_one n q c bytes = refl

-- bytes that are passed
pub split_after : (n q : ℕ) (bytes : List ℕ) → n ≤ length bytes
    → tokens_after n q bytes ≡ tokens_after 0 (q + n) (drop n bytes)
split_after zero q bytes h = ap (λ k. tokens_after 0 k bytes) (sym (add-zero q))
split_after (suc n) q [] h = absurd (omega (arith, h))
split_after (suc n) q (c ∷ bytes) h = grind (arith, split_one, (split_after n (q + 1) bytes (omega (arith, h))))

-- by what stands in front
pub split_none : (q : ℕ) → tokens_after 0 q [] ≡ Ends q
unfolding tokens_after
split_none q = refl

-- no bytes have no tokens, wherever one would begin
pub split_nil : (k q : ℕ) → tokens_after k q [] ≡ Ends q
unfolding tokens_after
split_nil k q = grind arith

-- all bytes are passed
pub split_all : (n q : ℕ) (bytes : List ℕ) → n ≡ length bytes → tokens_after n q bytes ≡ Ends (q + n)
split_all n q bytes e = grind (arith, drop_all, split_after, split_none)

-- a blank or comment in front
pub split_skipped : (q c n : ℕ) (bytes : List ℕ) → front_of c bytes ≡ Skipped n
    → tokens_after 0 q (c ∷ bytes) ≡ tokens_after n (q + 1) bytes
unfolding tokens_after
split_skipped q c n bytes h = rw (h, tokens_after) refl

-- a token in front
pub split_found : (q c n : ℕ) (kind : TokenKind) (bytes : List ℕ) → front_of c bytes ≡ Found kind n
    → tokens_after 0 q (c ∷ bytes)
    ≡ Then (token_before kind (c ∷ take n bytes) q (drop n bytes)) (tokens_after n (q + 1) bytes)
unfolding tokens_after
split_found q c n kind bytes h = rw (h, tokens_after) refl

-- a token in front, and the tokens behind it
pub split_token : (q c n : ℕ) (kind : TokenKind) (bytes : List ℕ) → front_of c bytes ≡ Found kind n
    → tokens_after 0 q (c ∷ bytes)
    ≡ Then (token_before kind (c ∷ take n bytes) q (drop n bytes)) (tokens_after 0 (q + suc n) (drop n bytes))
split_token q c n kind bytes h = grind (arith, front_fits, split_after, split_found)

-- a token of the bytes w, in front of others
pub split_whole : (q c : ℕ) (kind : TokenKind) (w x : List ℕ) → front_of c (w ++ x) ≡ Found kind (length w)
    → tokens_after 0 q (c ∷ (w ++ x))
    ≡ Then (token_before kind (c ∷ w) q x) (tokens_after 0 (q + suc (length w)) x)
split_whole q c kind w x h = grind (arith, drop_at, split_token, take_at)

-- a fault in front
pub split_refused : (q c : ℕ) (f : TextFaultKind) (bytes : List ℕ) → front_of c bytes ≡ Refused f
    → tokens_after 0 q (c ∷ bytes) ≡ Stops f q
unfolding tokens_after
split_refused q c f bytes h = rw (h, tokens_after) refl

-- a token that the end of the bytes breaks off
pub split_unfinished : (q c : ℕ) (bytes : List ℕ) → front_of c bytes ≡ Unfinished
    → tokens_after 0 q (c ∷ bytes) ≡ Stops EndInside (q + 1 + length bytes)
unfolding tokens_after
split_unfinished q c bytes h = rw (h, tokens_after) refl

-- a blank is passed
pub split_blank : (q c : ℕ) (bytes : List ℕ) → is_blank c ≡ true
    → tokens_after 0 q (c ∷ bytes) ≡ tokens_after 0 (q + 1) bytes
split_blank q c bytes h = split_skipped q c 0 bytes (front_blank c bytes h)

-- a comment is passed to the end of its line
pub split_comment : (q c : ℕ) (bytes : List ℕ) → c ≡ 35
    → tokens_after 0 q (c ∷ bytes) ≡ tokens_after (leading stays_on_line bytes) (q + 1) bytes
split_comment q c bytes h = split_skipped q c _ bytes (front_comment c bytes h)

-- a blank at an index
pub split_blank_at : (xs : List ℕ) (i : ℕ) → i < length xs → is_blank (get_or xs i 0) ≡ true
    → tokens_after 0 i (drop i xs) ≡ tokens_after 0 (i + 1) (drop (i + 1) xs)
split_blank_at xs i h e = grind (arith, drop-cons, split_blank)

-- a comment at an index
pub split_comment_at : (xs : List ℕ) (i : ℕ) → i < length xs → get_or xs i 0 ≡ 35
    → tokens_after 0 i (drop i xs) ≡ tokens_after (leading stays_on_line (drop (i + 1) xs)) (i + 1) (drop (i + 1) xs)
split_comment_at xs i h e = grind (arith, drop-cons, split_comment)

-- a comment to the end of its line
pub split_line_at : (xs : List ℕ) (i : ℕ) → i < length xs → get_or xs i 0 ≡ 35
    → tokens_after 0 i (drop i xs) ≡ tokens_after 0 (i + 1 + leading stays_on_line (drop (i + 1) xs))
    (drop (i + 1 + leading stays_on_line (drop (i + 1) xs)) xs)
split_line_at xs i h e = grind (arith, drop-drop, leading_le, split_after, split_comment_at)

-- bytes, by the first and the rest
pub first_and_rest : (xs : List ℕ) → 0 < length xs → xs ≡ get_or xs 0 0 ∷ drop 1 xs
first_and_rest [] h = absurd (omega (arith, h))
first_and_rest (x ∷ xs) h = refl

-- bytes are left at a place
room : (xs : List ℕ) (i : ℕ) → i < length xs → 0 < length (drop i xs)
room xs i h = rw length-drop (omega arith)

-- the bytes of a token
front_bytes : (s : List ℕ) (i n : ℕ) → 0 < length s → take (i + 1 + n - i) s ≡ get_or s 0 0 ∷ take n (drop 1 s)
front_bytes [] i n h = absurd (omega (arith, h))
front_bytes (x ∷ xs) i n h = let e : i + 1 + n - i ≡ suc n = omega arith in rw e refl

-- the bytes behind a token
behind : (xs : List ℕ) (i n : ℕ) → drop n (drop 1 (drop i xs)) ≡ drop (i + 1 + n) xs
behind xs i n = ap (drop n) (drop-drop 1 i xs) ∙ drop-drop n (i + 1) xs

-- a token at a place
pub at_found : (xs : List ℕ) (i n : ℕ) (kind : TokenKind) → i < length xs
    → front_of (get_or (drop i xs) 0 0) (drop 1 (drop i xs)) ≡ Found kind n
    → tokens_after 0 i (drop i xs) ≡ Then (token_before kind (take (i + 1 + n - i) (drop i xs)) i (drop (i + 1 + n) xs))
    (tokens_after n (i + 1) (drop 1 (drop i xs)))
at_found xs i n kind h e = grind (arith, behind, first_and_rest, front_bytes, room, split_found)

-- a fault at a place
pub at_refused : (xs : List ℕ) (i : ℕ) (f : TextFaultKind) → i < length xs
    → front_of (get_or (drop i xs) 0 0) (drop 1 (drop i xs)) ≡ Refused f → tokens_after 0 i (drop i xs) ≡ Stops f i
at_refused xs i f h e = ap (tokens_after 0 i) (first_and_rest (drop i xs) (room xs i h)) ∙ split_refused i _ f _ e

-- a token at a place that the end breaks off
pub at_unfinished : (xs : List ℕ) (i : ℕ) → i < length xs
    → front_of (get_or (drop i xs) 0 0) (drop 1 (drop i xs)) ≡ Unfinished
    → tokens_after 0 i (drop i xs) ≡ Stops EndInside (length xs)
at_unfinished xs i h e = grind (arith, first_and_rest, length-drop, room, split_unfinished)

-- the slice that begins at i
pub to_end : (xs : List ℕ) (i : ℕ) → take (length xs - i) (drop i xs) ≡ drop i xs
to_end xs i = take_all (length xs - i) (drop i xs) (rw length-drop (omega arith))

-- what the code finds in front is what stands at the place
pub front_is : (xs s : List ℕ) (i : ℕ) (f g : Front) → s ≡ drop i xs → f ≡ g → f ≡ front_of (get_or s 0 0) (drop 1 s)
    → front_of (get_or (drop i xs) 0 0) (drop 1 (drop i xs)) ≡ g
front_is xs s i f g e k h = sym (sym k ∙ h ∙ ap (λ s. front_of (get_or s 0 0) (drop 1 s)) e)
