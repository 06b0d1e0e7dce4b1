-- A quoted character that is complete stays so, whatever follows.
use Rattle.keymap_text.proofs.Common.{◌≡◌, ◌≢◌, ◌⊎◌, inl, inr, ℕ, ◌+◌, ◌<◌, ◌≤◌, ◌==◌, Bool, true, false, cond, List}
use Rattle.keymap_text.proofs.Common.{[], ◌∷◌, ◌++◌, length, get_or, refl, sym, ◌∙◌, ap, subst, arith, nat_lt, rules}
use Rattle.keymap_text.proofs.Common.{slice_index, Option, None, length-append, ⊎_elim, eq-eqb, true≢false, nat_tests}
use Rattle.keymap_text.proofs.Common.{get_or_append_left, le-ltb, decoded, decoded_by, Decoded, bad, second, continues}
use Rattle.keymap_text.proofs.Common.{get_or-append_seam, TextFaultKind, BadLiteral, TokenKind, Literal, is_word_kind}
use Rattle.keymap_text.proofs.Common.{Front, Skipped, Found, Refused, Unfinished, literal, quoted, closing, is_lone}
use Rattle.bstr.proofs.lemmas.PieceLemmas.{size-bounds}
use Rattle.bstr.proofs.lemmas.EncodeLemmas.{decoded-encode}
use Rattle.std.specs.Prelude.{encode_utf8}
use lib.Utf8.{scalar}

-- tests of a number
not_zero : (n : ℕ) → 0 < n → (n == 0) ≡ false
not_zero n h = grind (arith, nat_tests)

-- a printable character of ASCII between apostrophes
pub printable : (c : ℕ) (y : List ℕ) → 31 < c → c < 127 → literal (c ∷ 39 ∷ y) ≡ Found (Literal c) 2
unfolding literal
printable c y h k = grind (arith, nat_tests)

-- bytes that begin with a printable character of ASCII and an apostrophe
pub printable_front : (bytes : List ℕ) → 1 < length bytes → 31 < get_or bytes 0 0 → get_or bytes 0 0 < 127
    → get_or bytes 1 0 ≡ 39 → literal bytes ≡ Found (Literal (get_or bytes 0 0)) 2
printable_front (c ∷ d ∷ y) l a b e = ap (λ n. literal (c ∷ n ∷ y)) e ∙ printable c y a b
printable_front _ l a b e = absurd (omega (arith, l))

-- z, and y that has more bytes to go by: they are the same, or all k bytes of z may begin a character, and y has them
-- all
Grows : ℕ → Decoded → Decoded → Type 0
Grows k y z = (y ≡ z) ⊎ ((z ≡ bad k) × (k ≤ y.size))

-- two choices that differ in one branch at most
under : (k : ℕ) (p : Bool) (g y z : Decoded) → Grows k y z → Grows k (cond p g y) (cond p g z)
unfolding Grows
under k p g y z h = grind arith

-- two choices that differ in the other branch at most
over : (k : ℕ) (p : Bool) (g y z : Decoded) → Grows k y z → Grows k (cond p y g) (cond p z g)
unfolding Grows
over k p g y z h = grind arith

-- a size that both branches have
at_least : (k : ℕ) (p : Bool) (y z : Decoded) → k ≤ y.size → k ≤ z.size → k ≤ (cond p y z).size
at_least k p y z g h = grind arith

-- with more bytes behind them, the first bytes decode alike, or all of them may begin a character
by_1 : (n b c d e : ℕ) → 1 < n → Grows 1 (decoded_by n b c d e) (decoded_by 1 b 0 0 0)
unfolding Grows
by_1 n b c d e h =
    rw (not_zero n (omega arith), le-ltb n 2 (omega arith))
    (under 1 (nat_lt b 0x80) _ _ _ (under 1 (nat_lt b 0xC2) _ _ _ (under 1 (nat_lt 0xF4 b) _ _ _ (inr (
      refl,
      at_least 1 (second b c) _ _ (at_least 1 (nat_lt b 0xE0) _ _ (omega arith)
          (at_least 1 (nat_lt n 3) _ _ (omega arith)
          (at_least 1 (continues d) _ _ (at_least 1 (nat_lt b 0xF0) _ _ (omega arith)
          (at_least 1 (nat_lt n 4) _ _ (omega arith) (at_least 1 (continues e) _ _ (omega arith) (omega arith))))
          (omega arith)))) (omega arith),
    )))))

-- two bytes
by_2 : (n b c d e : ℕ) → 2 < n → Grows 2 (decoded_by n b c d e) (decoded_by 2 b c 0 0)
unfolding Grows
by_2 n b c d e h = grind (arith, at_least, le-ltb, not_zero, over, under)

-- three bytes
by_3 : (n b c d e : ℕ) → 3 < n → Grows 3 (decoded_by n b c d e) (decoded_by 3 b c d 0)
unfolding Grows
by_3 n b c d e h = grind (arith, at_least, le-ltb, not_zero, over, under)

-- four bytes decide
by_4 : (n b c d e : ℕ) → 3 < n → decoded_by n b c d e ≡ decoded_by 4 b c d e
by_4 n b c d e h = grind (arith, le-ltb, not_zero)

-- any bytes
decoded_grows : (s x : List ℕ) → Grows (length s) (decoded (s ++ x)) (decoded s)
unfolding Grows
decoded_grows [] x = inr (refl, omega arith)
decoded_grows (b ∷ []) [] = inl refl
decoded_grows (b ∷ []) (c ∷ x) = by_1 _ b c (get_or x 0 0) (get_or x 1 0) (omega arith)
decoded_grows (b ∷ c ∷ []) [] = inl refl
decoded_grows (b ∷ c ∷ []) (d ∷ x) = by_2 _ b c d (get_or x 0 0) (omega arith)
decoded_grows (b ∷ c ∷ d ∷ []) [] = inl refl
decoded_grows (b ∷ c ∷ d ∷ []) (e ∷ x) = by_3 _ b c d e (omega arith)
decoded_grows (b ∷ c ∷ d ∷ e ∷ s) x = inl (by_4 _ b c d e (omega arith) ∙ sym (by_4 _ b c d e (omega arith)))

-- what a quoted character can give
LiteralFront : Front → Type 0
LiteralFront (Skipped n) = ⊥
LiteralFront (Found k n) = is_word_kind k ≡ false
LiteralFront (Refused f) = f ≡ BadLiteral
LiteralFront Unfinished = Unit {0}

-- by both branches
either : (b : Bool) (f g : Front) → LiteralFront f → LiteralFront g → LiteralFront (cond b f g)
either b f g h k = grind arith

-- of a decoded character
quoted_shape : (o : Option ℕ) (n : ℕ) (s : List ℕ) → LiteralFront (quoted (record { char = o; size = n }) s)
unfolding LiteralFront
quoted_shape o n s = grind (arith, either)

-- of what stands at an apostrophe
literal_shape : (s : List ℕ) → LiteralFront (literal s)
unfolding LiteralFront literal
literal_shape s = either (is_lone s) _ _ refl (quoted_shape (decoded s).char (decoded s).size s)

-- what is refused at an apostrophe is BadLiteral
pub literal_refused : (s : List ℕ) (f : TextFaultKind) → literal s ≡ Refused f → f ≡ BadLiteral
unfolding LiteralFront
literal_refused s f h = subst LiteralFront h (literal_shape s)

-- what is found at an apostrophe is no word
pub literal_found : (s : List ℕ) (k : TokenKind) (n : ℕ) → literal s ≡ Found k n → is_word_kind k ≡ false
unfolding LiteralFront
literal_found s k n h = subst LiteralFront h (literal_shape s)

-- with more bytes behind, once it is known what the first ones are
char_stable : (o : Option ℕ) (n : ℕ) (s x : List ℕ) → n ≤ length s
    → quoted (record { char = o; size = n }) s ≢ Unfinished
    → quoted (record { char = o; size = n }) (s ++ x) ≡ quoted (record { char = o; size = n }) s
char_stable o n s x l h = grind (arith, nat_tests, length-append, get_or_append_left)

-- no more bytes than there are
size_le : (s : List ℕ) → (decoded s).size ≤ length s
size_le [] = omega arith
size_le (b ∷ s) = (size-bounds (length (b ∷ s)) b (get_or s 0 0) (get_or s 1 0) (get_or s 2 0) (omega arith)).2

-- bytes that may all begin a character are unfinished
open_all : (s : List ℕ) → quoted (bad (length s)) s ≡ Unfinished
open_all s = rw (eq-eqb (length s) (length s) refl) refl

-- by how the bytes decode
quoted_stable : (s x : List ℕ) → quoted (decoded s) s ≢ Unfinished
    → quoted (decoded (s ++ x)) (s ++ x) ≡ quoted (decoded s) s
unfolding Grows
quoted_stable s x h = ⊎_elim
    (λ e. ap (λ d. quoted d (s ++ x)) e ∙ char_stable (decoded s).char (decoded s).size s x (size_le s) h)
    (λ e. absurd (h (ap (λ d. quoted d s) e.0 ∙ open_all s)))
    (decoded_grows s x)

-- a choice that is not unfinished
chosen : (p : Bool) (l q r : Front) → cond p l q ≢ Unfinished → (q ≢ Unfinished → r ≡ q) → cond p l r ≡ cond p l q
chosen p l q r h k = grind arith

-- whether a lone byte is quoted, two bytes tell
lone_same : (b c : ℕ) (s x : List ℕ) → is_lone (b ∷ c ∷ (s ++ x)) ≡ is_lone (b ∷ c ∷ s)
lone_same b c s x = grind arith

-- what is not unfinished stays whatever follows
pub literal_stable : (s x : List ℕ) → literal s ≢ Unfinished → literal (s ++ x) ≡ literal s
unfolding literal
literal_stable [] x h = absurd (h refl)
literal_stable (b ∷ []) x h = grind arith
literal_stable (b ∷ c ∷ s) x h =
    ap (λ p. cond p (Found (Literal b) 2) (quoted (decoded (b ∷ c ∷ (s ++ x))) (b ∷ c ∷ (s ++ x)))) (lone_same b c s x)
    ∙ chosen (is_lone (b ∷ c ∷ s)) _ _ _ h (quoted_stable (b ∷ c ∷ s) x)

-- a quoted character is unfinished, or stays whatever follows
pub literal_or : (s : List ℕ) → (literal s ≡ Unfinished) ⊎ ((x : List ℕ) → literal (s ++ x) ≡ literal s)
literal_or s = go (literal s) refl
  where
    go : (f : Front) → literal s ≡ f → (literal s ≡ Unfinished) ⊎ ((x : List ℕ) → literal (s ++ x) ≡ literal s)
    go Unfinished e = inl e
    go f e = inr (λ x. literal_stable s x (λ u. cc))

-- an unfinished one is short, and a longer one that begins so is longer than it
quoted_open : (o : Option ℕ) (n : ℕ) (s : List ℕ) → quoted (record { char = o; size = n }) s ≡ Unfinished → length s ≤ n
quoted_open o n s h = grind (arith, nat_tests)

-- an unfinished one is no quoted lone byte
not_lone : (s : List ℕ) (q : Front) → cond (is_lone s) (Found (Literal (slice_index s 0)) 2) q ≡ Unfinished
    → (is_lone s ≡ false) × (q ≡ Unfinished)
not_lone s q h = grind arith

-- a character has at most four bytes
size_4 : (s : List ℕ) → (decoded s).size ≤ 4
size_4 [] = omega arith
size_4 (b ∷ s) = (size-bounds (length (b ∷ s)) b (get_or s 0 0) (get_or s 1 0) (get_or s 2 0) (omega arith)).1

-- an unfinished one has at most four bytes after the apostrophe
pub unfinished_short : (s : List ℕ) → literal s ≡ Unfinished → length s ≤ 4
unfolding literal
unfinished_short s h =
    omega (arith, quoted_open (decoded s).char (decoded s).size s (not_lone s (quoted (decoded s) s) h).1, size_4 s)

-- a found one has the bytes of its character and an apostrophe
quoted_found : (o : Option ℕ) (n m : ℕ) (k : TokenKind) (s : List ℕ)
    → quoted (record { char = o; size = n }) s ≡ Found k m → m ≡ n + 1
quoted_found o n m k s h = grind (arith, nat_tests)

-- no more bytes than there are
quoted_fits : (o : Option ℕ) (n m : ℕ) (k : TokenKind) (s : List ℕ)
    → quoted (record { char = o; size = n }) s ≡ Found k m → m ≤ length s
quoted_fits o n m k s h = grind (arith, nat_tests)

-- a quoted lone byte has an apostrophe behind it
lone_long : (s : List ℕ) → is_lone s ≡ true → 2 ≤ length s
lone_long s h = grind arith

-- a found one is a lone byte, or a character
pub found_by : (b : Bool) (c n : ℕ) (k : TokenKind) (q : Front) → cond b (Found (Literal c) 2) q ≡ Found k n
    → ((b ≡ true) × (k ≡ Literal c) × (n ≡ 2)) ⊎ ((b ≡ false) × (q ≡ Found k n))
found_by b c n k q h = grind arith

-- a found one has no more bytes than there are
pub literal_fits : (s : List ℕ) (k : TokenKind) (n : ℕ) → literal s ≡ Found k n → n ≤ length s
unfolding literal
literal_fits s k n h = ⊎_elim
    (λ l. omega (arith, l.2, lone_long s l.0))
    (λ q. quoted_fits (decoded s).char (decoded s).size n k s q.1)
    (found_by (is_lone s) (slice_index s 0) n k (quoted (decoded s) s) h)

-- no blank stands at an apostrophe
pub literal_no_skip : (s : List ℕ) (n : ℕ) → literal s ≡ Skipped n → ⊥
unfolding LiteralFront
literal_no_skip s n h = subst LiteralFront h (literal_shape s)

-- no bound of a second byte lets it pass
never : (p q r s : Bool) → cond p false (cond q false (cond r false (cond s false false))) ≡ false
never p q r s = grind arith

-- a byte that no other follows begins no character
no_char : (p q r : Bool) (a z : Decoded) → r ≡ false → (cond p (bad 1) (cond q (bad 1) (cond r a (bad 1)))).char ≡ None
no_char p q r a z h = grind arith

-- a quoted lone byte is no UTF-8
lone_decodes : (s : List ℕ) → is_lone s ≡ true → (decoded s).char ≡ None
lone_decodes (b ∷ d ∷ s) h = grind (arith, nat_tests, no_char)
lone_decodes _ h = absurd (true≢false (sym h))

-- an apostrophe behind the character closes it
closing_spelled : (c : ℕ) (e rest : List ℕ) → c ≢ 10
    → closing c (length e) (e ++ 39 ∷ rest) ≡ Found (Literal c) (length e + 1)
closing_spelled c e rest h = grind (arith, get_or-append_seam, length-append)

-- the UTF-8 of a character other than LF, and an apostrophe, are found
pub literal_spelled : (c : ℕ) (rest : List ℕ) → scalar c ≡ true → c ≢ 10
    → literal (encode_utf8 c ++ 39 ∷ rest) ≡ Found (Literal c) (length (encode_utf8 c) + 1)
unfolding literal
literal_spelled c rest v h = grind (arith, nat_tests, closing_spelled, decoded-encode, lone_decodes)

-- no LF stands in an unfinished quoted character
at_most : (k : ℕ) (p : Bool) (y z : Decoded) → y.size ≤ k → z.size ≤ k → (cond p y z).size ≤ k
at_most k p y z g h = grind arith

-- no LF stands second in a character
no_second_lf : (b : ℕ) → second b 10 ≡ false
no_second_lf b = never (b == 0xE0) (b == 0xED) (b == 0xF0) (b == 0xF4)

-- no character goes past an LF
size_before_lf : (l : List ℕ) → 0 < length l → (decoded (l ++ 10 ∷ [])).size ≤ length l
size_before_lf [] h = absurd (omega (arith, h))
size_before_lf (b ∷ []) h = search (rules, no_second_lf, at_most)
size_before_lf (b ∷ c ∷ []) h = search (rules, at_most)
size_before_lf (b ∷ c ∷ d ∷ []) h =
    at_most 3 (nat_lt b 0x80) _ _ (omega arith)
    (at_most 3 (nat_lt b 0xC2) _ _ (omega arith)
    (at_most 3 (nat_lt 0xF4 b) _ _ (omega arith)
    (at_most 3 (second b c) _ _ (at_most 3 (nat_lt b 0xE0) _ _ (omega arith)
    (at_most 3 (continues d) _ _ (at_most 3 (nat_lt b 0xF0) _ _ (omega arith) (omega arith)) (omega arith)))
    (omega arith))))
size_before_lf (b ∷ c ∷ d ∷ e ∷ l) h = omega (arith, size_4 (b ∷ c ∷ d ∷ e ∷ (l ++ 10 ∷ [])))

-- no LF ends an unfinished one
pub lf_closes : (l : List ℕ) → literal (l ++ 10 ∷ []) ≡ Unfinished → ⊥
unfolding literal
lf_closes [] u = grind arith
lf_closes (b ∷ l) u =
    let s = (b ∷ l) ++ 10 ∷ [] in
    let few = quoted_open (decoded s).char (decoded s).size s (not_lone s (quoted (decoded s) s) u).1 in
    omega (arith, few, size_before_lf (b ∷ l) (omega arith), length-append (b ∷ l) (10 ∷ []))
