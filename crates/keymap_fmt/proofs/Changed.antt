-- What stands for a token: it reads as a token, means the same, and stays when it is quoted again.
use Rattle.keymap_fmt.proofs.Common.{◌≡◌, ◌⊎◌, inl, inr, ℕ, zero, suc, ◌+◌, ◌<◌, ◌&&◌, Bool}
use Rattle.keymap_fmt.proofs.Common.{true, false, true≢false, List, [], ◌∷◌, ◌++◌, length, refl, sym, ◌∙◌, ap}
use Rattle.keymap_fmt.proofs.Common.{subst, arith, nat_tests, if◌then◌else◌, front_of, Found, TokenKind, Part, Comment}
use Rattle.keymap_fmt.proofs.Common.{Code, behind}
use Rattle.std.proofs.Common.{length-append, ◌≢◌, not, ◌||◌, nat_lt, Ok, Err}
use Rattle.std.proofs.Math.Seq.{take-length}
use Rattle.std.proofs.lemmas.Bool.{cases_lt, le-leb, lt-ltb}
use Rattle.std.proofs.lemmas.Str.{len_utf8_bounds, length-encode}
use Rattle.std.proofs.Common.{cond, ◌≤◌}
use Rattle.std.specs.Prelude.{encode_utf8, ⊤}
use Rattle.keymap_names.specs.Quoted.{is_quoted}
use Rattle.keymap_text.specs.declared.fault.TextFaultKind.TheVariants.{BadChar}
use lib.Utf8.{scalar}
use Rattle.keymap_core.specs.Actions.{within}
use Rattle.keymap_places.specs.Unicode.{is_lone, is_wide, is_above}
use Rattle.keymap_text.specs.Items.{character}
use Rattle.keymap_text.specs.Words.{item}
use Rattle.keymap_text.specs.Printed.{character_text}
use Rattle.keymap_text.specs.declared.token.TokenKind.TheVariants.{Literal, Word}
use Rattle.keymap_text.specs.declared.words.Item.{Item}
use Rattle.keymap_text.specs.declared.words.Item.TheVariants.{Value}
use Rattle.keymap_text.specs.declared.words.Meaning.{Meaning}
use Rattle.keymap_text.specs.declared.words.Meaning.TheVariants.{Number}
use Rattle.keymap_text.proofs.Shared.{IsNamed, found_word, front_quote, is_one_word, literal_spelled, named_character}
use Rattle.keymap_fmt.proofs.Common.{TextFaultKind}
use Rattle.keymap_fmt.specs.Quoted.{of_item, of_number, of_literal, change_by, left_by, quote, part_by, bytes_by}
use Rattle.keymap_fmt.specs.Quoted.{comment_in}
use Rattle.keymap_fmt.specs.Quoted.{IsSameItem}
use Rattle.keymap_fmt.specs.declared.quoted.Quoting.TheVariants.{On}
use Rattle.keymap_fmt.specs.declared.quoted.Change.{Change}
use Rattle.keymap_fmt.specs.declared.quoted.Change.TheVariants.{Stays, Quoted, Named}
use Rattle.keymap_fmt.proofs.Reading.{ReadsToken}
use Rattle.keymap_fmt.proofs.Texts.{Reads, token_reads}

-- bytes that are found as one token, with nothing behind it, read as that token
whole_reads : (a : ℕ) (w : List ℕ) (kind : TokenKind) → front_of a w ≡ Found kind (length w) → ReadsToken kind (a ∷ w)
whole_reads a w kind h =
    subst (λ (v : List ℕ). ReadsToken kind (a ∷ v)) (take-length w)
    (token_reads a (length w) kind w h)

-- a character between apostrophes reads as that literal
quote_reads : (c : ℕ) → scalar c ≡ true → c ≢ 10 → ReadsToken (Literal c) (quote c)
quote_reads c s n =
    let w = encode_utf8 c ++ 39 ∷ [] in
    let size : length (encode_utf8 c) + 1 ≡ length w = sym (length-append (encode_utf8 c) (39 ∷ [])) in
    whole_reads 39 w (Literal c) (front_quote 39 w refl ∙ literal_spelled c [] s n ∙ ap (Found (Literal c)) size)

-- one word reads as a word
word_reads : (w : List ℕ) → is_one_word w ≡ true → ReadsToken Word w
word_reads [] h = absurd (true≢false (sym h))
word_reads (a ∷ w) h = whole_reads a w Word (found_word a w h)

-- what stands for a token means the same; the first one of a definition or a pair is one
abbrev pub SaysSame : ℕ → Part → List ℕ → Part → List ℕ → Type 0
SaysSame left Comment bytes Comment new = ⊤
SaysSame zero (Code kind) bytes (Code other) new = item kind bytes ≡ item other new
SaysSame (suc left) (Code kind) bytes (Code other) new = IsSameItem (item kind bytes) (item other new)
SaysSame left part bytes other new = ⊥

-- what makes a text Unicode for sure, or not
abbrev pub lone_in : Part → List ℕ → Bool
lone_in Comment bytes = false
lone_in (Code kind) bytes = is_lone kind bytes

abbrev pub wide_in : Part → List ℕ → Bool
wide_in Comment bytes = false
wide_in (Code kind) bytes = is_wide kind bytes

-- both of two tests
pub both : (a b : Bool) → (a && b) ≡ true → (a ≡ true) × (b ≡ true)
both true b h = (refl, h)
both false b h = absurd (true≢false (sym h))

-- the character of a number, or none
pub number_char : (test : ℕ → Bool) (sure : Bool) (i : Item) (n c : ℕ) → i ≡ Value (Number n) → character i ≡ Ok c
    → of_item test sure i ≡ of_number test sure c
number_char test sure i n c e h = ap (of_item test sure) e ∙ go (scalar n) (sym (ap character e) ∙ h)
  where
    go : (a : Bool) → cond a (Ok n) (Err BadChar) ≡ Ok c
        → (if a then of_number test sure n else Stays) ≡ of_number test sure c
    go true k = ap (of_number test sure) (cc)
    go false k = absurd (cc)

pub number_none : (test : ℕ → Bool) (sure : Bool) (i : Item) (n : ℕ) (f : TextFaultKind) → i ≡ Value (Number n)
    → character i ≡ Err f → of_item test sure i ≡ Stays
number_none test sure i n f e h = ap (of_item test sure) e ∙ go (scalar n) (sym (ap character e) ∙ h)
  where
    go : (a : Bool) → cond a (Ok n) (Err BadChar) ≡ Err f → (if a then of_number test sure n else Stays) ≡ Stays
    go true k = absurd (cc)
    go false k = refl

-- a text that is not Unicode for sure quotes no more numbers than one that is
steady : (b s d u : Bool) (n : ℕ) → (b && (s || d)) ≡ false → (s ≡ true) ⊎ (u ≡ false)
    → (if b && (u || d) then Quoted n else Stays) ≡ Stays
steady false s d u n h k = refl
steady true true d u n h k = absurd (true≢false h)
steady true false d false n h k = ap (λ b. if b then Quoted n else Stays) h
steady true false d true n h (inl e) = absurd (true≢false (sym e))
steady true false d true n h (inr e) = absurd (true≢false e)

-- What stands for a token, where so many belong to what has begun and the text is Unicode for sure or not.
pub record Fits (sure : Bool) (left : ℕ) (part : Part) (bytes : List ℕ) (x : Change) : Type 0 where
  -- it reads as one, and begins the next piece likewise
  pub reads : Reads part bytes → Reads (part_by x part) (bytes_by x bytes)
  pub standing : behind (part_by x part) ≡ behind part
  pub comment : comment_in (part_by x part) (bytes_by x bytes) ≡ comment_in part bytes
  -- it means the same
  pub says : SaysSame left part bytes (part_by x part) (bytes_by x bytes)
  -- it stays, and so do those behind it
  pub stays : (u : Bool) → (sure ≡ true) ⊎ (u ≡ false)
      → change_by (On u) left (part_by x part) (bytes_by x bytes) ≡ Stays
  pub next : (u : Bool) → left_by (On u) left (part_by x part) (bytes_by x bytes) ≡ left_by (On sure) left part bytes
  -- it makes no text Unicode for sure that wasn't
  pub lone : lone_in part bytes ≡ true → lone_in (part_by x part) (bytes_by x bytes) ≡ true
  pub wide : sure ≡ false → wide_in (part_by x part) (bytes_by x bytes) ≡ true → wide_in part bytes ≡ true

-- a token that stays
says_itself : (left : ℕ) (part : Part) (bytes : List ℕ) → SaysSame left part bytes part bytes
says_itself left Comment bytes = tt
says_itself zero (Code kind) bytes = refl
says_itself (suc left) (Code kind) bytes = inl refl

left_itself : (u sure : Bool) (left : ℕ) (part : Part) (bytes : List ℕ)
    → left_by (On u) left part bytes ≡ left_by (On sure) left part bytes
left_itself u sure left Comment bytes = refl
left_itself u sure left (Code kind) bytes = refl

stays_fits : (sure : Bool) (left : ℕ) (part : Part) (bytes : List ℕ)
    → ((u : Bool) → (sure ≡ true) ⊎ (u ≡ false) → change_by (On u) left part bytes ≡ Stays)
    → Fits sure left part bytes Stays
stays_fits sure left part bytes h = record {
  reads = λ r. r;
  standing = refl;
  comment = refl;
  says = says_itself left part bytes;
  stays = h;
  next = λ u. left_itself u sure left part bytes;
  lone = λ e. e;
  wide = λ _ e. e;
}

-- a number is no literal
number_lone : (kind : TokenKind) (bytes : List ℕ) (n : ℕ) → item kind bytes ≡ Value (Number n)
    → is_lone kind bytes ≡ false
number_lone (Literal c) bytes n h = absurd (cc)
number_lone kind bytes n h = refl

number_wide : (kind : TokenKind) (bytes : List ℕ) (n : ℕ) → item kind bytes ≡ Value (Number n) → 255 < n
    → is_wide kind bytes ≡ true
number_wide (Literal c) bytes n h l = absurd (cc)
number_wide kind bytes n h l = ap is_above h ∙ lt-ltb 255 n l

-- a literal has three bytes
pub quote_size : (c : ℕ) → 3 ≤ length (quote c)
quote_size c =
    omega (arith, length-append (encode_utf8 c) (39 ∷ []), length-encode c, (len_utf8_bounds c).0)

-- a character of more than one byte is none of ASCII
quote_long : (c : ℕ) → nat_lt 3 (length (quote c)) ≡ true → 127 < c
quote_long c h = grind (arith, nat_tests, length-append, length-encode)

-- any test of a character that a line feed fails, and that the characters of ASCII pass but for controls
module _ (test : ℕ → Bool) where
  literal_stays : (c : ℕ) (bytes : List ℕ) → test c ≡ true → of_literal test c bytes ≡ Stays
  literal_stays c bytes h = grind arith

  -- the meaning of a name is no number that is quoted
  means_stays : (u : Bool) (c : ℕ) (m : Meaning) → character (Value m) ≡ Ok c → test c ≡ false
      → of_item test u (Value m) ≡ Stays
  means_stays u c (Number n) h e = grind arith
  means_stays u c m h e = refl

  -- a character that fails is a control, or none of ASCII
  hidden : ((c : ℕ) → 31 < c → c < 127 → test c ≡ true) → (c : ℕ) → test c ≡ false → (c < 32) ⊎ (126 < c)
  hidden shows c h = elim (cases_lt c 32) [
    | inl l ↦ inl l
    | inr l ↦ elim (cases_lt 126 c) [
      | inl k ↦ inr k
      | inr k ↦ absurd (true≢false (sym (shows c (omega (arith, l)) (omega (arith, k))) ∙ h))
    ]
  ]

means_above : (c : ℕ) (m : Meaning) → character (Value m) ≡ Ok c → is_above (Value m) ≡ true → 255 < c
means_above c (Number n) h e = grind (arith, nat_tests)
means_above c m h e = absurd (true≢false (sym e))

outside : (c : ℕ) → not (within 0x80 0xff c) ≡ true → 127 < c → 255 < c
outside c h l = grind (arith, nat_tests)

-- a literal that gets a name is no byte alone, and one above ASCII has two bytes or more
not_alone : (c : ℕ) (bytes : List ℕ) → (nat_lt c 0x80 || nat_lt 3 (length bytes)) ≡ true
    → is_lone (Literal c) bytes ≡ false
not_alone c bytes h = grind (arith, nat_tests)

has_more : (c : ℕ) (bytes : List ℕ) → (nat_lt c 0x80 || nat_lt 3 (length bytes)) ≡ true → 255 < c
    → nat_lt 3 (length bytes) ≡ true
has_more c bytes h l = grind (arith, nat_tests)

-- the characters that are quoted
no_line : (c : ℕ) → is_quoted c ≡ true → c ≢ 10
no_line c h e = true≢false (sym h ∙ ap is_quoted e)

shown : (c : ℕ) → 31 < c → c < 127 → is_quoted c ≡ true
shown c h k = rw (lt-ltb c 0xa0 (omega (arith, k)), le-leb 0x20 c (omega (arith, h)), le-leb c 0x7e (omega (arith, k)))
    refl

quoting_fits : (sure : Bool) (left : ℕ) (kind : TokenKind) (bytes : List ℕ) (n : ℕ)
    → item kind bytes ≡ Value (Number n) → scalar n ≡ true
    → (is_quoted n && (sure || not (within 0x80 0xff n))) ≡ true
    → Fits sure (suc left) (Code kind) bytes (Quoted n)
quoting_fits sure left kind bytes n i s h =
    let t = both (is_quoted n) _ h in
    record {
      reads = λ _. quote_reads n s (no_line n t.0);
      standing = refl;
      comment = refl;
      says = inr (n, ap character i ∙ ap (λ b. cond b (Ok n) (Err BadChar)) s, refl);
      stays = λ u _. literal_stays is_quoted n (quote n) t.0;
      next = λ _. refl;
      lone = λ e. absurd (true≢false (sym e ∙ number_lone kind bytes n i));
      wide = λ unsure e. number_wide kind bytes n i
          (outside n (sym (ap (λ b. b || not (within 0x80 0xff n)) unsure) ∙ t.1) (quote_long n e));
    }

naming_fits : (sure : Bool) (left : ℕ) (c : ℕ) (bytes : List ℕ)
    → (scalar c && not (is_quoted c) && (nat_lt c 0x80 || nat_lt 3 (length bytes))) ≡ true
    → Fits sure (suc left) (Code (Literal c)) bytes (Named c)
naming_fits sure left c bytes h =
    let t = both (scalar c && not (is_quoted c)) _ h in
    let s = both (scalar c) (not (is_quoted c)) t.0 in
    let fails : is_quoted c ≡ false = negated (is_quoted c) s.1 in
    let m : IsNamed c = named_character c s.0 (hidden is_quoted shown c fails) in
    record {
      reads = λ _. word_reads (character_text c) m.word;
      standing = refl;
      comment = refl;
      says = inr (c, refl, ap (λ m. character (Value m)) m.says ∙ m.reads);
      stays = λ u _. ap (λ m. of_item is_quoted u (Value m)) m.says ∙ means_stays is_quoted u c m.means m.reads fails;
      next = λ _. refl;
      lone = λ e. absurd (true≢false (sym e ∙ not_alone c bytes t.1));
      wide = λ _ e. has_more c bytes t.1
          (means_above c m.means m.reads (sym (ap (λ m. is_above (Value m)) m.says) ∙ e));
    }
  where
    negated : (b : Bool) → not b ≡ true → b ≡ false
    negated false h = refl
    negated true h = absurd (true≢false (sym h))

literal_fits : (sure : Bool) (left : ℕ) (c : ℕ) (bytes : List ℕ)
    → Fits sure (suc left) (Code (Literal c)) bytes (of_literal is_quoted c bytes)
literal_fits sure left c bytes =
    go (scalar c && not (is_quoted c) && (nat_lt c 0x80 || nat_lt 3 (length bytes))) refl
  where
    go : (b : Bool) → (scalar c && not (is_quoted c) && (nat_lt c 0x80 || nat_lt 3 (length bytes))) ≡ b
        → Fits sure (suc left) (Code (Literal c)) bytes (if b then Named c else Stays)
    go true e = naming_fits sure left c bytes e
    go false e = stays_fits sure (suc left) (Code (Literal c)) bytes (λ u _. ap (λ b. if b then Named c else Stays) e)

-- a token that is no literal
item_fits : (sure : Bool) (left : ℕ) (kind : TokenKind) (bytes : List ℕ)
    → ((u : Bool) → change_by (On u) (suc left) (Code kind) bytes ≡ of_item is_quoted u (item kind bytes))
    → Fits sure (suc left) (Code kind) bytes (of_item is_quoted sure (item kind bytes))
item_fits sure left kind bytes h = go (item kind bytes) refl
  where
    number : (n : ℕ) (a b : Bool) → item kind bytes ≡ Value (Number n) → scalar n ≡ a
        → (is_quoted n && (sure || not (within 0x80 0xff n))) ≡ b
        → Fits sure (suc left) (Code kind) bytes (if a then (if b then Quoted n else Stays) else Stays)
    number n true true i s e = quoting_fits sure left kind bytes n i s e
    number n true false i s e = stays_fits sure (suc left) (Code kind) bytes (λ u k. h u ∙ ap (of_item is_quoted u) i
        ∙ ap (λ a. if a then of_number is_quoted u n else Stays) s
        ∙ steady (is_quoted n) sure (not (within 0x80 0xff n)) u n e k)
    number n false b i s e = stays_fits sure (suc left) (Code kind) bytes (λ u k. h u ∙ ap (of_item is_quoted u) i
        ∙ ap (λ a. if a then of_number is_quoted u n else Stays) s)

    go : (i : Item) → item kind bytes ≡ i → Fits sure (suc left) (Code kind) bytes (of_item is_quoted sure i)
    go (Value (Number n)) e = number n (scalar n) (is_quoted n && (sure || not (within 0x80 0xff n))) e refl refl
    go i e = stays_fits sure (suc left) (Code kind) bytes (λ u _. h u ∙ ap (of_item is_quoted u) e)

pub fits : (sure : Bool) (left : ℕ) (part : Part) (bytes : List ℕ)
    → Fits sure left part bytes (change_by (On sure) left part bytes)
fits sure left Comment bytes = stays_fits sure left Comment bytes (λ _ _. refl)
fits sure zero (Code kind) bytes = stays_fits sure zero (Code kind) bytes (λ _ _. refl)
fits sure (suc left) (Code (Literal c)) bytes = literal_fits sure left c bytes
fits sure (suc left) (Code kind) bytes = item_fits sure left kind bytes (λ _. refl)
