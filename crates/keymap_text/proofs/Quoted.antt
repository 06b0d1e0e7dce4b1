-- What stands at an apostrophe, in the words of the format.
use Rattle.keymap_text.proofs.Common.{◌≡◌, ◌≢◌, inr, ℕ, ◌+◌, ◌<◌, ◌≤◌, Bool, true, false, cond, List, [], ◌∷◌}
use Rattle.keymap_text.proofs.Common.{◌++◌, length, drop, slice_index, refl, sym, ◌∙◌, ap, subst, arith}
use Rattle.keymap_text.proofs.Common.{nat_lt, Ok, Err, Option, Some, None, length-append, append_assoc, append-nil}
use Rattle.keymap_text.proofs.Common.{rules}
use Rattle.keymap_text.proofs.Common.{Front, Skipped, Found, Refused, Unfinished, literal}
use Rattle.keymap_text.proofs.Common.{quoted, closing, unclosed, is_lone, front_of, first, tokens_after, nat_tests}
use Rattle.keymap_text.proofs.Common.{decoded, Decoded, second, continues, code_of_3, code_of_4, TextFaultKind}
use Rattle.keymap_text.proofs.Common.{BadLiteral, EndInside, TokenKind, Literal}
use Rattle.bstr.proofs.lemmas.PieceLemmas.{by-shape, value-9, value-12}
use Rattle.keymap_text.specs.Quoted.{IsCharacter, IsQuoted, BeginsQuoted, IsUnfinished, IsReason, quoted_token}
use Rattle.keymap_text.proofs.Literals.{literal_stable, literal_refused, literal_fits, literal_no_skip}
use Rattle.keymap_text.proofs.InFront.{front_quote}
use Rattle.keymap_text.proofs.Splitting.{split_whole, split_found, split_refused, split_unfinished}
use Rattle.keymap_text.proofs.Leading.{same_tail}
use Rattle.keymap_text.proofs.QuotedFound.{Finds, character_found, literal_finds, long_character, whole_character}

-- bytes that need some of a character and the apostrophe
needs : (s t : List ℕ) (c : ℕ) → IsCharacter c (s ++ t) → IsUnfinished (39 ∷ s)
needs s t c h = record {
  character = c;
  more = t ++ 39 ∷ [];
  some = rw length-append (omega arith);
  quoted = record {
    between = s ++ t;
    character = h;
    apostrophes = ap (λ l. 39 ∷ l) (sym (append_assoc s t (39 ∷ [])));
  };
}

-- two and three bytes that begin a longer character
two_begin : (b c : ℕ) → 0xE0 ≤ b → b ≤ 0xF4 → second b c ≡ true → IsUnfinished (39 ∷ b ∷ c ∷ [])
two_begin b c low high ok = go (nat_lt b 0xF0) refl
  where
    go : (p : Bool) → nat_lt b 0xF0 ≡ p → IsUnfinished (39 ∷ b ∷ c ∷ [])
    go true e = needs (b ∷ c ∷ []) (0x80 ∷ []) (code_of_3 b c 0x80)
        (long_character (b ∷ c ∷ 0x80 ∷ []) (code_of_3 b c 0x80)
        (value-9 3 b c 0x80 0 (omega arith, low, grind (arith, nat_tests), ok, refl)) (omega arith))
    go false e =
        needs (b ∷ c ∷ []) (0x80 ∷ 0x80 ∷ []) (code_of_4 b c 0x80 0x80)
        (long_character (b ∷ c ∷ 0x80 ∷ 0x80 ∷ []) (code_of_4 b c 0x80 0x80)
        (value-12 4 b c 0x80 0x80 (omega arith, grind (arith, nat_tests), high, ok, refl, refl)) (omega arith))

-- three bytes
three_begin : (b c d : ℕ) → 0xF0 ≤ b → b ≤ 0xF4 → second b c ≡ true → continues d ≡ true
    → IsUnfinished (39 ∷ b ∷ c ∷ d ∷ [])
three_begin b c d low high ok more =
    needs (b ∷ c ∷ d ∷ []) (0x80 ∷ []) (code_of_4 b c d 0x80)
    (long_character (b ∷ c ∷ d ∷ 0x80 ∷ []) (code_of_4 b c d 0x80)
    (value-12 4 b c d 0x80 (omega arith, low, high, ok, more, refl)) (omega arith))

-- an apostrophe and one byte from 0x80 on
high_begins : (s : List ℕ) → length s ≡ 1 → 0x80 ≤ slice_index s 0 → IsUnfinished (39 ∷ s)
high_begins (b ∷ []) l h = needs (b ∷ []) [] b (inr (h, refl))
high_begins _ l h = absurd (omega (arith, l))

-- no byte
nothing_begins : (s : List ℕ) → length s ≡ 0 → IsUnfinished (39 ∷ s)
nothing_begins [] l = needs [] (0x80 ∷ []) 0x80 (inr (omega arith, refl))
nothing_begins (b ∷ s) l = absurd (omega (arith, l))

-- two bytes of a list
two_of : (s : List ℕ) → length s ≡ 2 → 0xE0 ≤ slice_index s 0 → slice_index s 0 ≤ 0xF4
    → second (slice_index s 0) (slice_index s 1) ≡ true → IsUnfinished (39 ∷ s)
two_of (b ∷ c ∷ []) l = two_begin b c
two_of _ l = absurd (omega (arith, l))

-- three bytes of a list
three_of : (s : List ℕ) → length s ≡ 3 → 0xF0 ≤ slice_index s 0 → slice_index s 0 ≤ 0xF4
    → second (slice_index s 0) (slice_index s 1) ≡ true → continues (slice_index s 2) ≡ true → IsUnfinished (39 ∷ s)
three_of (b ∷ c ∷ d ∷ []) l = three_begin b c d
three_of _ l = absurd (omega (arith, l))

-- by how the bytes decode
none_begins : (s : List ℕ) → (decoded s).char ≡ None → (decoded s).size ≡ length s → IsUnfinished (39 ∷ s)
none_begins s e l =
    let b = slice_index s 0 in let c = slice_index s 1 in let d = slice_index s 2 in
    let char = λ (p : Decoded) (is : decoded s ≡ p). sym (ap (λ (q : Decoded). q.char) is) ∙ e in
    let size = λ (p : Decoded) (is : decoded s ≡ p). sym l ∙ ap (λ (q : Decoded). q.size) is in
    by-shape (length s) b c d (slice_index s 3)
    (λ h. nothing_begins s h.0)
    (λ h. let k = char _ h.2 in cc)
    (λ h. high_begins s (size _ h.3) h.1)
    (λ h. high_begins s (size _ h.2) (omega (arith, h.1)))
    (λ h. high_begins s (size _ h.4) (omega (arith, h.1)))
    (λ h. absurd (omega (arith, h.0, size _ h.4)))
    (λ h. let k = char _ h.4 in cc)
    (λ h. two_of s (size _ h.5) h.1 h.2 h.3)
    (λ h. absurd (omega (arith, h.0, size _ h.5)))
    (λ h. let k = char _ h.5 in cc)
    (λ h. three_of s (size _ h.6) h.1 h.2 h.3 h.4)
    (λ h. absurd (omega (arith, h.0, size _ h.6)))
    (λ h. let k = char _ h.6 in cc)

-- a character of which the closing apostrophe is missing
record Open (c n : ℕ) (s : List ℕ) : Type 0 where
  other : c ≢ 10
  all : length s ≤ n

-- an unfinished character isn't closed
closing_unfinished : (c n : ℕ) (s : List ℕ) → closing c n s ≡ Unfinished → Open c n s
closing_unfinished c n s h = record { other = grind (arith, nat_tests); all = grind (arith, nat_tests) }

-- all bytes may begin one
unclosed_unfinished : (n : ℕ) (s : List ℕ) → unclosed n s ≡ Unfinished → n ≡ length s
unclosed_unfinished n s h = grind (arith, nat_tests)

-- in both cases
quoted_unfinished : (s : List ℕ) (o : Option ℕ) → (decoded s).char ≡ o
    → quoted (record { char = o; size = (decoded s).size }) s ≡ Unfinished → IsUnfinished (39 ∷ s)
quoted_unfinished s None e h = none_begins s e (unclosed_unfinished (decoded s).size s h)
quoted_unfinished s (Some c) e h =
    let p = closing_unfinished c (decoded s).size s h in
    needs s [] c (rw append-nil (whole_character s c e p.all p.other))

-- an unfinished one needs some bytes more
literal_unfinished : (s : List ℕ) → literal s ≡ Unfinished → IsUnfinished (39 ∷ s)
unfolding literal
literal_unfinished s h = go (is_lone s) h
  where
    go : (b : Bool) → cond b (Found (Literal (slice_index s 0)) 2) (quoted (decoded s) s) ≡ Unfinished
        → IsUnfinished (39 ∷ s)
    go true e = absurd (cc)
    go false e = quoted_unfinished s (decoded s).char refl e

-- what needs some bytes more is unfinished
unfinished_literal : (s : List ℕ) → IsUnfinished (39 ∷ s) → literal s ≡ Unfinished
unfinished_literal s u = go (literal s) refl
  where
    all : List ℕ
    all = u.quoted.between ++ 39 ∷ []

    whole : s ++ u.more ≡ all
    whole = same_tail 39 39 (s ++ u.more) all u.quoted.apostrophes

    found : literal (s ++ u.more) ≡ Found (Literal u.character) (length u.quoted.between + 1)
    found = ap literal whole ∙ character_found u.character u.quoted.between [] u.quoted.character

    same : literal s ≢ Unfinished → literal s ≡ Found (Literal u.character) (length u.quoted.between + 1)
    same h = sym (literal_stable s u.more h) ∙ found

    long : literal s ≢ Unfinished → ⊥
    long h =
        let few = literal_fits s _ _ (same h) in
        let more = length-append s u.more in
        omega (arith, ap length whole, length-append u.quoted.between (39 ∷ []), u.some)

    go : (f : Front) → literal s ≡ f → literal s ≡ Unfinished
    go Unfinished e = e
    go f e = absurd (long (λ h. cc))

-- a quoted character is found
pub quoted_found : (q c : ℕ) (bytes more : List ℕ) → IsQuoted c bytes
    → first (tokens_after 0 q (bytes ++ more)) ≡ Ok (Some (quoted_token q c bytes more))
quoted_found q c bytes more h =
    let w = h.between ++ 39 ∷ [] in
    let one : front_of 39 (w ++ more) ≡ Found (Literal c) (length w) =
    front_quote 39 (w ++ more) refl ∙ ap literal (append_assoc h.between (39 ∷ []) more)
    ∙ character_found c h.between more h.character
    ∙ ap (Found (Literal c)) (sym (length-append h.between (39 ∷ []))) in
    subst (λ l. first (tokens_after 0 q (l ++ more)) ≡ Ok (Some (quoted_token q c l more))) (sym h.apostrophes)
    (ap first (split_whole q 39 (Literal c) w more one))

-- bytes that need more of a quoted character are unfinished
pub quoted_broken : (q : ℕ) (bytes : List ℕ) → 0 < length bytes → IsUnfinished bytes
    → first (tokens_after 0 q bytes) ≡ Err (EndInside, q + length bytes)
quoted_broken q [] l u = absurd (omega (arith, l))
quoted_broken q (b ∷ s) l u = grind (arith, front_quote, split_unfinished, unfinished_literal)

-- what stands at an apostrophe, by what is found there
begins : (rest : List ℕ) (k : TokenKind) (n : ℕ) → Finds rest k n → BeginsQuoted (39 ∷ rest)
begins rest k n f = record {
  character = f.char;
  token = 39 ∷ (f.between ++ 39 ∷ []);
  more = drop n rest;
  quoted = record { between = f.between; character = f.character; apostrophes = refl };
  front = ap (λ l. 39 ∷ l) (f.bytes ∙ sym (append_assoc f.between (39 ∷ []) (drop n rest)));
}

-- a quoted character in front is found
begun_found : (rest : List ℕ) → BeginsQuoted (39 ∷ rest) → (k : TokenKind) × (n : ℕ) × (literal rest ≡ Found k n)
begun_found rest h =
    let b = h.quoted.between in
    let whole : rest ≡ b ++ 39 ∷ h.more =
    same_tail 39 39 rest _ (h.front ∙ ap (λ l. l ++ h.more) h.quoted.apostrophes
    ∙ ap (λ l. 39 ∷ l) (append_assoc b (39 ∷ []) h.more)) in
    (Literal h.character, length b + 1, ap literal whole ∙ character_found h.character b h.more h.quoted.character)

-- what is refused is neither found nor unfinished
refused_not : (rest : List ℕ) (f : TextFaultKind) → literal rest ≡ Refused f
    → (BeginsQuoted (39 ∷ rest) → ⊥) × (IsUnfinished (39 ∷ rest) → ⊥)
refused_not rest f e = (λ h. let g = (begun_found rest h).2 in cc, λ u. let g = unfinished_literal rest u in cc)

-- where no quoted character stands, and none begins, there is a fault at the apostrophe
pub quoted_refused : (q : ℕ) (rest : List ℕ) → (BeginsQuoted (39 ∷ rest) → ⊥) → (IsUnfinished (39 ∷ rest) → ⊥)
    → first (tokens_after 0 q (39 ∷ rest)) ≡ Err (BadLiteral, q)
quoted_refused q rest n m = go (literal rest) refl
  where
    go : (f : Front) → literal rest ≡ f → first (tokens_after 0 q (39 ∷ rest)) ≡ Err (BadLiteral, q)
    go Unfinished e = absurd (m (literal_unfinished rest e))
    go (Skipped k) e = absurd (literal_no_skip rest k e)
    go (Found k i) e = absurd (n (begins rest k i (literal_finds rest k i e)))
    go (Refused f) e =
        ap first (split_refused q 39 f rest (front_quote 39 rest refl ∙ e))
        ∙ ap (λ f. Err (f, q)) (literal_refused rest f e)

-- at an apostrophe a quoted character stands, or one is unfinished, or there is a fault
pub quoted_reason : (q : ℕ) (rest : List ℕ) → IsReason (39 ∷ rest) (first (tokens_after 0 q (39 ∷ rest)))
quoted_reason q rest = go (literal rest) refl
  where
    go : (f : Front) → literal rest ≡ f → IsReason (39 ∷ rest) (first (tokens_after 0 q (39 ∷ rest)))
    go Unfinished e = search (rules, split_unfinished, front_quote, literal_unfinished)
    go (Skipped k) e = absurd (literal_no_skip rest k e)
    go (Found k i) e =
        subst (IsReason (39 ∷ rest)) (sym (ap first (split_found q 39 i k rest (front_quote 39 rest refl ∙ e))))
        (begins rest k i (literal_finds rest k i e))
    go (Refused f) e =
        subst (IsReason (39 ∷ rest)) (sym (ap first (split_refused q 39 f rest (front_quote 39 rest refl ∙ e))
        ∙ ap (λ f. Err (f, q)) (literal_refused rest f e))) (refused_not rest f e)
