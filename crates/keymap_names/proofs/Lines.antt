-- What is shown of bytes, names, numbers and words stay in their line, and a terminal shows it.
use Rattle.std.proofs.Common.{◌≡◌, ℕ, ◌<◌, ◌+◌, ◌∙◌, Bool, true, false, All, List, [], ◌∷◌, ◌++◌, Option, Some, None}
use Rattle.std.proofs.Common.{refl, ap, sym, arith, rules, append-nil, get_or, length, take, drop, not, nat_lt}
use Rattle.std.proofs.Common.{codes, decimal, if◌then◌else◌}
use Prim.Native.Nat.{zero, suc}
use Rattle.std.specs.Prelude.{◌||◌, ◌==◌, ◌/◌, ◌%◌, IsTrue, encode_utf8, slice_index, slice_index_or}
use Rattle.std.specs.Char.{IsScalar, digit_char}
use Rattle.std.specs.List.{flat_map, list_all, position_or_len, range_with_len}
use Rattle.std.proofs.lemmas.Bool.{agree_below_at, and_from, and_parts, cond_both, or_left, or_right}
use Rattle.std.proofs.lemmas.Bool.Decides.{nat_tests}
use Rattle.std.proofs.lemmas.Grind.{flat_map-append}
use Rattle.std.proofs.lemmas.List.{flat_map_more, take_more}
use Rattle.std.proofs.lemmas.List.Elements.{All-append, All-cons, All-head, All-map, All-nil, All-tail, All-take}
use Rattle.std.proofs.lemmas.List.Elements.{All-weaker}
use Rattle.std.proofs.lemmas.Str.{encode_ascii}
use Rattle.bstr.specs.Utf8.{Decoded, decoded, lossy_chars, or_replacement, pieces, pieces_from}
use Rattle.bstr.proofs.lemmas.SoundLemmas.{SpellsChar-decoded}
use Rattle.messages.proofs.Shared.{decimal_passes, parts_all}
use Rattle.messages.specs.Filled.{words_before, words_behind, is_hole}
unfoldable use Rattle.messages.specs.Filled.{filled}
use Rattle.keymap_core.proofs.Shared.{along}
use Rattle.keymap_core.specs.Actions.{accent_names, name_of}
use Rattle.keymap_core.specs.CodePoints.{digit_at, upper_digits}
unfoldable use Rattle.keymap_core.specs.CodePoints.{code_digits, code_text}
use Rattle.keymap_core.specs.Unseen.{is_unseen}
use Rattle.keymap_core.specs.declared.action.Action.TheVariants as action
use Rattle.keymap_core.specs.declared.action.Lock.{Lock}
use Rattle.keymap_core.specs.declared.action.Lock.TheVariants as locks
use Rattle.keymap_core.specs.declared.action.Modifier.{Modifier}
use Rattle.keymap_core.specs.declared.action.Modifier.TheVariants as mods
use Rattle.keymap_names.specs.Lists.{accent_name, accents_text, listed_text, ranges, run_text}
use Rattle.keymap_names.specs.Shown.{AreLines, IsLine, IsSeen, is_seen, is_shown_byte, shown_char}
unfoldable use Rattle.keymap_names.specs.Shown.{shown_chars, shown_name, word_text}

small_byte : (c : ℕ) → is_shown_byte c ≡ true → c < 128
small_byte c h = grind (arith, nat_tests, h)

-- the character that is read in front is one
read : (bs : List ℕ) (o : Option ℕ) → (decoded bs).char ≡ o → IsScalar (or_replacement o)
read bs (Some y) e = (SpellsChar-decoded bs y e).scalar
read bs None e = grind (arith, nat_tests)

abbrev ReadsScalar : Decoded → Type 0
ReadsScalar p = IsScalar (or_replacement p.char)

scalar_pieces : (fuel : ℕ) (bs : List ℕ) → All ReadsScalar (pieces_from fuel bs)
unfolding pieces_from
scalar_pieces zero bs = All-nil ReadsScalar
scalar_pieces (suc n) [] = All-nil ReadsScalar
scalar_pieces (suc n) (b ∷ rest) =
    All-cons ReadsScalar (decoded (b ∷ rest)) (pieces_from n (drop (decoded (b ∷ rest)).size (b ∷ rest)))
    (read (b ∷ rest) (decoded (b ∷ rest)).char refl) (scalar_pieces n (drop (decoded (b ∷ rest)).size (b ∷ rest)))

seen_shown : (c : ℕ) → IsScalar c → IsSeen (shown_char c)
seen_shown c s =
    cond_both (c == 9) _ _ IsSeen (λ t. (s, or_left _ _ t))
    (λ _. cond_both (is_unseen c) _ _ IsSeen (λ _. search rules) (λ h. (s, or_right _ _ (ap not h))))

-- what is shown of any bytes
pub all_seen : (bytes : List ℕ) → All IsSeen (shown_chars bytes)
unfolding shown_chars
all_seen bytes =
    let pieces_read = scalar_pieces (length bytes) bytes in
    let scalars : All IsScalar (lossy_chars bytes) =
    All-map IsScalar (λ (p : Decoded). or_replacement p.char) (pieces bytes) pieces_read in
    All-map IsSeen shown_char (lossy_chars bytes)
    (All-weaker IsScalar (λ c. IsSeen (shown_char c)) seen_shown (lossy_chars bytes) scalars)

-- ---- bytes behind bytes

infixl 10 ◌⊳◌
pub ◌⊳◌ : {a b : List ℕ} → IsLine a → IsLine b → IsLine (a ++ b)
◌⊳◌ {a} {b} p q = record {
  characters = p.characters ++ q.characters;
  spelled = cc (p.spelled, q.spelled, flat_map-append encode_utf8 p.characters q.characters);
  seen = All-append IsSeen p.characters q.characters p.seen q.seen;
}

pub line_none : IsLine []
line_none = record { characters = []; spelled = refl; seen = All-nil IsSeen }

pub line_chars : (cs : List ℕ) → All IsSeen cs → IsLine (flat_map encode_utf8 cs)
line_chars cs p = record { characters = cs; spelled = refl; seen = p }

-- a character as it is
pub itself : (c : ℕ) → IsScalar c → is_unseen c ≡ false → IsLine (encode_utf8 c)
itself c s h = record {
  characters = c ∷ [];
  spelled = sym (append-nil (encode_utf8 c));
  seen = All-cons IsSeen c [] (s, or_right _ _ (ap not h)) (All-nil IsSeen);
}

-- an ASCII character in front
pub line_cons : (c : ℕ) (bs : List ℕ) → c < 128 → IsTrue (is_seen c) → IsLine bs → IsLine (c ∷ bs)
line_cons c bs small seen p = record {
  characters = c ∷ p.characters;
  spelled = cc (p.spelled, encode_ascii c small);
  seen = All-cons IsSeen c p.characters (grind (arith, nat_tests), seen) p.seen;
}

pub either : (b : Bool) (x y : List ℕ) → IsLine x → IsLine y → IsLine (if b then x else y)
either b x y p q = cond_both b x y IsLine (λ _. p) (λ _. q)

pub line_if : (t : Bool) (bs : List ℕ) → IsLine bs → IsLine (if t then bs else [])
line_if t bs p = either t bs [] p line_none

shown_byte_seen : (c : ℕ) → is_shown_byte c ≡ true → IsTrue (is_seen c)
shown_byte_seen c h =
    sym (ap (λ b. not b || is_seen c) h)
    ∙ along (λ d. not (is_shown_byte d) || is_seen d) (λ d. true) 0 128 refl c (omega arith)
    (omega (arith, small_byte c h))

pub ascii : (bs : List ℕ) → list_all is_shown_byte bs ≡ true → IsLine bs
ascii [] h = line_none
ascii (c ∷ bs) h =
    let both = and_parts (is_shown_byte c) (list_all is_shown_byte bs) h in
    line_cons c bs (small_byte c both.0) (shown_byte_seen c both.0) (ascii bs both.1)

pub line_each : {A : Type 0} (P : A → Type 0) (f : A → List ℕ) → ((x : A) → P x → IsLine (f x)) → (xs : List A)
    → All P xs → IsLine (flat_map f xs)
line_each P f each [] h = line_none
line_each P f each (x ∷ xs) h =
    each x (All-head P x xs h) ⊳ line_each P f each xs (All-tail P x xs h)

pub line_flat : {A : Type 0} (f : A → List ℕ) → ((x : A) → IsLine (f x)) → (xs : List A) → IsLine (flat_map f xs)
line_flat f each xs = line_each (λ _. Unit {0}) f (λ x _. each x) xs (λ k d _. tt)

-- behind what some elements give stands what the next one gives
pub next_given : {X A : Type 0} (f : X → List A) (xs : List X) (i : ℕ) (x d : X) (front text more : List A)
    → i < length xs → x ≡ get_or xs i d → text ≡ front ++ flat_map f (take i xs) → more ≡ text ++ f x
    → more ≡ front ++ flat_map f (take (i + 1) xs)
next_given f xs i x d front text more l is e given =
    let taken = ap (λ y. take i xs ++ y ∷ []) is ∙ sym (take_more xs i d l) in
    given ∙ ap (λ t. t ++ f x) e ∙ flat_map_more f front (take i xs) x ∙ ap (λ ys. front ++ flat_map f ys) taken

-- ---- digits

pub digit_printed : (d : ℕ) → d < 16 → is_shown_byte (digit_char d) ≡ true
digit_printed d low = agree_below_at (λ d. is_shown_byte (digit_char d)) (λ d. true) 16 d refl low

pub decimal_line : (n : ℕ) → IsLine (decimal n)
decimal_line n = ascii (decimal n) (decimal_passes is_shown_byte refl n)

-- ---- words with what is told at their places

pub fills : (w : List ℕ) (ts : List (List ℕ)) → list_all is_shown_byte w ≡ true → AreLines ts → IsLine (filled w ts)
unfolding filled
fills w [] h ps = ascii w h
fills w (t ∷ ts) h ps =
    ascii (words_before w) (parts_all is_shown_byte (position_or_len is_hole w) w h).0 ⊳ ps.0
    ⊳ fills (words_behind w) ts (parts_all is_shown_byte (position_or_len is_hole w + 2) w h).1 ps.1

-- ---- names and lists

pub modifier_line : (modifier : Modifier) → IsLine (name_of (action.Mod modifier))
modifier_line mods.LeftShift = ascii _ refl
modifier_line _ = ascii _ refl

-- a name of a list of names
pub named : (names : List (List ℕ)) → list_all (list_all is_shown_byte) names ≡ true → (i : ℕ)
    → IsLine (slice_index_or names i [])
named [] h i = line_none
named (name ∷ names) h zero = ascii name (and_parts _ _ h).0
named (name ∷ names) h (suc i) = named names (and_parts (list_all is_shown_byte name) _ h).1 i

pub accent_line : (i : ℕ) → IsLine (accent_name i)
accent_line i = named accent_names refl i

pub lock_line : (lock : Lock) → IsLine (name_of (action.Lock lock))
lock_line locks.Caps = ascii _ refl
lock_line _ = ascii _ refl

pub word_line : (token : List ℕ) → IsLine (word_text token)
unfolding word_text
word_line token = line_chars _ (All-take IsSeen 24 _ (all_seen token))

pub name_line : (name : List ℕ) → IsLine (shown_name name)
unfolding shown_name
name_line name = line_chars _ (all_seen name)

run_line : (ns : List ℕ) (i : ℕ) → IsLine (run_text ns i)
run_line ns i =
    either _ _ _ (either (i == 0) [] (codes ", ") line_none (ascii _ refl) ⊳ decimal_line _)
    (line_if _ _ (ascii (codes " to ") refl ⊳ decimal_line _))

pub ranges_line : (ns : List ℕ) → IsLine (ranges ns)
ranges_line ns = line_flat (run_text ns) (run_line ns) (range_with_len 0 (length ns))

listed_line : (accents : List ℕ) (i : ℕ) → IsLine (listed_text accents i)
listed_line accents i =
    either (i == 0) [] _ line_none (either _ _ _ (ascii (codes " or ") refl) (ascii (codes ", ") refl))
    ⊳ accent_line (slice_index accents i)

pub accents_line : (accents : List ℕ) → IsLine (accents_text accents)
accents_line accents = line_flat (listed_text accents) (listed_line accents) (range_with_len 0 (length accents))

-- ---- numbers of characters

hex_digit_line : (c unit : ℕ) (ds : List ℕ) → IsLine ds → IsLine (digit_at c unit ∷ ds)
hex_digit_line c unit ds p =
    ascii (digit_at c unit ∷ []) (and_from _ _ (digit_printed ((c / unit) % 16) (omega arith)) refl) ⊳ p

upper_line : (c : ℕ) → IsLine (upper_digits c)
upper_line c =
    either (nat_lt c 0x10000) [] _ line_none
    (either (nat_lt c 0x100000) _ _ (hex_digit_line c 0x10000 [] line_none)
    (hex_digit_line c 0x100000 _ (hex_digit_line c 0x10000 [] line_none)))

pub code_line : (c : ℕ) → IsLine (code_digits c)
unfolding code_digits
code_line c =
    upper_line c
    ⊳ hex_digit_line c 0x1000 _ (hex_digit_line c 0x100 _ (hex_digit_line c 0x10 _ (hex_digit_line c 1 [] line_none)))

pub code_text_line : (c : ℕ) → IsLine (code_text c)
unfolding code_text
code_text_line c = ascii (codes "U+") refl ⊳ code_line c
