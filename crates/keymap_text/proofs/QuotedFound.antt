-- What is found at an apostrophe: a character, and an apostrophe that closes it.
use Rattle.keymap_text.proofs.Common.{◌≡◌, ◌≢◌, inl, inr, ℕ, ◌+◌, ◌<◌, ◌≤◌, true, List, [], ◌∷◌}
use Rattle.keymap_text.proofs.Common.{◌++◌, length, take, drop, slice_index, refl, sym, ◌∙◌, ap, ap₂, arith}
use Rattle.keymap_text.proofs.Common.{Option, Some, None, length-append, append_assoc, append-nil}
use Rattle.keymap_text.proofs.Common.{⊎_elim, true≢false, take_at, ◌&&◌, add-one, list_all, get_or_at, drop_more}
use Rattle.keymap_text.proofs.Common.{drop_all, stays_on_line, Found, literal}
use Rattle.keymap_text.proofs.Common.{quoted, closing, unclosed, is_lone, nat_tests}
use Rattle.keymap_text.proofs.Common.{decoded, Decoded, good}
use Rattle.keymap_text.proofs.Common.{TokenKind, Literal}
use Rattle.std.proofs.lemmas.List.Folds.{list_all-append}
use Rattle.std.specs.Char.{encode_utf8}
use Rattle.bstr.proofs.lemmas.SoundLemmas.{SpellsChar-decoded}
use Rattle.keymap_text.specs.Quoted.{IsCharacter}
use Rattle.keymap_text.proofs.Literals.{literal_spelled}
use Rattle.keymap_text.proofs.Literals.{found_by}

-- a byte from 0x80 on stands between the apostrophes
lone_spelled : (c : ℕ) (more : List ℕ) → 0x80 ≤ c → literal (c ∷ 39 ∷ more) ≡ Found (Literal c) 2
unfolding literal
lone_spelled c more h = grind (arith, nat_tests)

-- a character and an apostrophe are found
pub character_found : (c : ℕ) (b more : List ℕ) → IsCharacter c b
    → literal (b ++ 39 ∷ more) ≡ Found (Literal c) (length b + 1)
character_found c b more h = grind (arith, literal_spelled, lone_spelled)

-- What is found at an apostrophe, where these bytes stand after it.
pub record Finds (s : List ℕ) (k : TokenKind) (n : ℕ) : Type 0 where
  pub char : ℕ
  pub between : List ℕ
  pub character : IsCharacter char between
  pub kind : k ≡ Literal char
  pub size : n ≡ length between + 1
  pub bytes : s ≡ between ++ 39 ∷ drop n s

-- what is found is a character and an apostrophe
lone_finds : (s : List ℕ) → is_lone s ≡ true → Finds s (Literal (slice_index s 0)) 2
lone_finds [] h = absurd (true≢false (sym h))
lone_finds (b ∷ []) h = absurd (true≢false (sym h))
lone_finds (b ∷ c ∷ s) h =
    let close : c ≡ 39 = grind (arith, nat_tests) in
    let high : 0x80 ≤ b = grind (arith, nat_tests) in
    record {
      char = b;
      between = b ∷ [];
      character = inr (high, refl);
      kind = refl;
      size = refl;
      bytes = ap (λ c. b ∷ c ∷ s) close;
    }

-- the parts of a closed character
record Closes (c n : ℕ) (s : List ℕ) (k : TokenKind) (m : ℕ) : Type 0 where
  other : c ≢ 10
  inside : n < length s
  close : slice_index s n ≡ 39
  kind : k ≡ Literal c
  size : m ≡ n + 1

-- a found character is closed
closing_closes : (c n m : ℕ) (k : TokenKind) (s : List ℕ) → closing c n s ≡ Found k m → Closes c n s k m
closing_closes c n m k s h = grind arith

-- nothing is found where no character stands first
unclosed_finds : (n m : ℕ) (k : TokenKind) (s : List ℕ) → unclosed n s ≡ Found k m → ⊥
unclosed_finds n m k s h = grind arith

-- by how the bytes decode
decoded_finds : (s : List ℕ) (o : Option ℕ) (k : TokenKind) (m : ℕ) → (decoded s).char ≡ o
    → quoted (record { char = o; size = (decoded s).size }) s ≡ Found k m → Finds s k m
decoded_finds s None k m e h = absurd (unclosed_finds (decoded s).size m k s h)
decoded_finds s (Some c) k m e h =
    let n = (decoded s).size in
    let p = SpellsChar-decoded s c e in
    let q = closing_closes c n m k s h in
    record {
      char = c;
      between = encode_utf8 c;
      character = inl (p.scalar, q.other, refl);
      kind = q.kind;
      size = q.size ∙ ap (λ i. i + 1) (sym p.width);
      bytes = p.bytes ∙ ap (λ (l : List ℕ). encode_utf8 c ++ l) (drop_more s n 0 q.inside
          ∙ ap (λ b. b ∷ drop (n + 1) s) q.close ∙ ap (λ i. 39 ∷ drop i s) (sym q.size));
    }

-- by both cases
pub literal_finds : (s : List ℕ) (k : TokenKind) (n : ℕ) → literal s ≡ Found k n → Finds s k n
unfolding literal
literal_finds s k n h = ⊎_elim
    (λ l. rw (l.1, l.2) (lone_finds s l.0))
    (λ q. decoded_finds s (decoded s).char k n refl q.1)
    (found_by (is_lone s) (slice_index s 0) n k (quoted (decoded s) s) h)

-- the bytes of what is found
finds_front : (s : List ℕ) (k : TokenKind) (n : ℕ) → (f : Finds s k n) → take n s ≡ f.between ++ 39 ∷ []
finds_front s k n f =
    let w = f.between ++ 39 ∷ [] in
    let whole : s ≡ w ++ drop n s = f.bytes ∙ sym (append_assoc f.between (39 ∷ []) (drop n s)) in
    let size : length w ≡ n = length-append f.between (39 ∷ []) ∙ sym f.size in
    ap (take n) whole ∙ take_at w (drop n s) n size

-- what is found at an apostrophe is found there whatever stands behind it
pub literal_alone : (s y : List ℕ) (k : TokenKind) (n : ℕ) → literal s ≡ Found k n → literal (take n s ++ y) ≡ Found k n
literal_alone s y k n h =
    let f = literal_finds s k n h in
    ap literal (ap (λ (l : List ℕ). l ++ y) (finds_front s k n f) ∙ append_assoc f.between (39 ∷ []) y)
    ∙ character_found f.char f.between y f.character ∙ ap₂ Found (sym f.kind) (sym f.size)

-- a character has some bytes
character_some : (c : ℕ) (b : List ℕ) → IsCharacter c b → 0 < length b
unfolding encode_utf8
character_some c b h = grind arith

-- a quoted character has two bytes at least behind its first apostrophe
pub literal_wide : (s : List ℕ) (k : TokenKind) (n : ℕ) → literal s ≡ Found k n → 2 ≤ n
literal_wide s k n h =
    let f = literal_finds s k n h in
    omega (arith, character_some f.char f.between f.character, f.size)

-- no byte of a character between apostrophes is an LF
character_on_line : (c : ℕ) (b : List ℕ) → IsCharacter c b → list_all stays_on_line b ≡ true
unfolding encode_utf8
character_on_line c b h = grind arith

-- no byte of a quoted character is an LF, and the last one is an apostrophe
pub literal_on_line : (s : List ℕ) (k : TokenKind) (n : ℕ) → literal s ≡ Found k n
    → (list_all stays_on_line (take n s) ≡ true) × (slice_index (39 ∷ s) n ≡ 39)
literal_on_line s k n h =
    let f = literal_finds s k n h in (
      ap (list_all stays_on_line) (finds_front s k n f) ∙ list_all-append stays_on_line f.between (39 ∷ [])
          ∙ ap (λ b. b && true) (character_on_line f.char f.between f.character),
      ap (slice_index (39 ∷ s)) (f.size ∙ add-one (length f.between))
          ∙ ap (λ s. slice_index s (length f.between)) f.bytes
          ∙ get_or_at f.between 39 (drop n s) 0 (length f.between) refl,
    )

-- bytes that are all of a character
pub whole_character : (t : List ℕ) (c : ℕ) → (decoded t).char ≡ Some c → length t ≤ (decoded t).size → c ≢ 10
    → IsCharacter c t
whole_character t c e l h =
    let p = SpellsChar-decoded t c e in
    inl (
      p.scalar,
      h,
      p.bytes ∙ ap (λ (r : List ℕ). encode_utf8 c ++ r) (drop_all (decoded t).size t l)
          ∙ append-nil (encode_utf8 c),
    )

-- a character of several bytes is no LF
not_lf : (t : List ℕ) (c : ℕ) → (decoded t).char ≡ Some c → 1 < (decoded t).size → c ≢ 10
unfolding encode_utf8
not_lf t c e l h =
    let p = SpellsChar-decoded t c e in
    let one : length (encode_utf8 10) ≡ 1 = refl in
    omega (arith, p.width, ap (λ c. length (encode_utf8 c)) h, one)

-- bytes that decode as one character are that character
pub long_character : (t : List ℕ) (c : ℕ) → decoded t ≡ good c (length t) → 1 < length t → IsCharacter c t
long_character t c e l =
    let char = ap (λ (d : Decoded). d.char) e in
    let size = ap (λ (d : Decoded). d.size) e in
    whole_character t c char (omega (arith, size)) (not_lf t c char (omega (arith, size)))
