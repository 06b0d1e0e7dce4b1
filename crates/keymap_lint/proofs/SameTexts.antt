-- Two texts with the same tokens have the same diagnostics but for places.
use Rattle.std.proofs.Common.{rules}
use Rattle.keymap_lint.proofs.Common.{◌≡◌, ℕ, ◌+◌, ◌<◌, Bool, true, false, ◌&&◌, not, List, [], ◌∷◌, length, map}
use Rattle.keymap_lint.proofs.Common.{get_or}
use Rattle.keymap_lint.proofs.Common.{refl, sym, ◌∙◌, ap, subst, Diagnostic, MapValue, Placed}
use Rattle.std.proofs.Common.{◌-◌, All, ◌||◌}
use Rattle.std.specs.List.{list_all, list_any}
use Rattle.std.proofs.lemmas.Bool.{cases_lt}
use Rattle.std.proofs.lemmas.List.{get_or-map, get_or_past, length-map}
use Rattle.keymap_text.specs.Lexical.{TokenValue}
use Rattle.keymap_text.specs.Meaning.{Spells, item_of, items, tokens}
use Rattle.keymap_text.specs.Rows.{IsRow}
use Rattle.keymap_text.specs.Words.{item}
use Rattle.keymap_text.proofs.Shared.{one_map}
use Rattle.keymap_places.specs.Placed.{IsSpelledBy, Row, places_of, span_of}
use Rattle.keymap_places.specs.Same.{HaveSameTokens, kind_and_bytes}
use Rattle.keymap_places.specs.Types.{TokenKind}
use Rattle.keymap_places.specs.Unicode.{is_lone, is_unicode, is_wide}
use Rattle.keymap_places.proofs.Shared.{same_places, tokens_are_in_order}
use Rattle.keymap_check.specs.Findings.{AreFindings}
use Rattle.keymap_lint.specs.Types.{Diagnostics, Finding, Span, Spelled as OfSpelled}
use Rattle.keymap_lint.specs.Alphabets.{lost_letters}
use Rattle.keymap_lint.specs.Capitals.{has_wide}
use Rattle.keymap_lint.specs.Directives.{comment_at, directive_at, directives, is_between, stands_at, told}
use Rattle.keymap_lint.specs.Kinds.{missing_accents, missing_slots, nul_keys, unused_slots}
use Rattle.keymap_lint.specs.Letters.{gaps as all_gaps}
use Rattle.keymap_lint.specs.Lists.{IsLint, all_of, spelled_by, spelled_with}
use Rattle.keymap_lint.specs.Octal.{looks_octal}
use Rattle.keymap_lint.specs.Same.{AnswerTheSame, IsSame, IsSameToken, Pairwise, SameTokensSameDiagnostics}
use Rattle.keymap_lint.specs.Same.{SameTokensTellOfTheSame, no_pair}
use Rattle.keymap_lint.specs.Severities.{never_sticks}
use Rattle.keymap_lint.specs.Shifted.{small_slots}
use Rattle.keymap_lint.specs.Spelled.{Spelled, bytes_at, cells_in_force, span_at}
use Rattle.keymap_lint.specs.declared.directives.Directive.{Directive}
use Rattle.keymap_lint.proofs.Begun.{accent_there, definitions_there}
use Rattle.keymap_lint.proofs.InForce.{nothing, placed_at, slot_there, span_is}
use Rattle.keymap_lint.proofs.OneFindings.{one_list_of_findings}
use Rattle.keymap_lint.proofs.Pairs.{pairs_at, pairs_from}
use Rattle.keymap_lint.proofs.SameKept.{IsSameDirective, told_same}
use Rattle.keymap_lint.proofs.SameOrder.{ordered_same}
use Rattle.keymap_lint.proofs.SamePlaces.{AreInOrder, BeginAlike, definition_same, directive_same}
use Rattle.keymap_lint.proofs.SameTokens.{Match, all_of_same, missing_accents_same, small_slots_same}
use Rattle.keymap_lint.proofs.Told.{no_directives}

-- ---- tokens with the same number

image : (ts : List TokenValue) (n : ℕ)
    → get_or (map kind_and_bytes ts) n (kind_and_bytes nothing) ≡ kind_and_bytes (get_or ts n nothing)
image ts n = search (rules, cases_lt, get_or-map, nothing, length-map, get_or_past)

module _ (text other : List ℕ) (same : HaveSameTokens text other) where
  same_token : (n : ℕ)
      → kind_and_bytes (get_or (tokens text) n nothing) ≡ kind_and_bytes (get_or (tokens other) n nothing)
  same_token n =
      sym (image (tokens text) n) ∙ ap (λ l. get_or l n (kind_and_bytes nothing)) same ∙ image (tokens other) n

  as_many : length (tokens text) ≡ length (tokens other)
  as_many =
      sym (length-map (tokens text) kind_and_bytes) ∙ ap length same ∙ length-map (tokens other) kind_and_bytes

-- the bytes of the token with a number, and how many
bytes_are : (text : List ℕ) (n : ℕ)
    → bytes_at text (span_at (map span_of (tokens text)) n) ≡ (get_or (tokens text) n nothing).bytes
bytes_are text n = search (rules, nothing, span_is, placed_at)

width_is : (text : List ℕ) (n : ℕ)
    → (span_at (map span_of (tokens text)) n).end - (span_at (map span_of (tokens text)) n).start
    ≡ length (get_or (tokens text) n nothing).bytes
width_is text n = search (rules, nothing, span_is)

-- where no token is, nothing looks octal
octal_there : (text : List ℕ) (spans : List Span) (n : ℕ) → looks_octal (bytes_at text (span_at spans n)) ≡ true
    → n < length spans
octal_there text spans n e = search (rules, cases_lt, get_or_past)

-- ---- what is said of kinds and bytes alone

all_of_image : (f : TokenKind → List ℕ → Bool) (ts : List TokenValue)
    → list_all (λ (t : TokenValue). f t.kind t.bytes) ts
    ≡ list_all (λ (token : TokenKind × List ℕ). f token.0 token.1) (map kind_and_bytes ts)
all_of_image f [] = refl
all_of_image f (t ∷ ts) = ap (λ b. f t.kind t.bytes && b) (all_of_image f ts)

any_of_image : (f : TokenKind → List ℕ → Bool) (ts : List TokenValue)
    → list_any (λ (t : TokenValue). f t.kind t.bytes) ts
    ≡ list_any (λ (token : TokenKind × List ℕ). f token.0 token.1) (map kind_and_bytes ts)
any_of_image f [] = refl
any_of_image f (t ∷ ts) = ap (λ b. f t.kind t.bytes || b) (any_of_image f ts)

items_of_image : (ts : List TokenValue)
    → map item_of ts ≡ map (λ (token : TokenKind × List ℕ). item token.0 token.1) (map kind_and_bytes ts)
items_of_image [] = refl
items_of_image (t ∷ ts) = ap (λ is. item t.kind t.bytes ∷ is) (items_of_image ts)

unicode_same : (text other : List ℕ) → HaveSameTokens text other
    → is_unicode (tokens text) ≡ is_unicode (tokens other)
unicode_same text other same =
    let all = λ (ts : List TokenValue). all_of_image (λ kind bytes. not (is_lone kind bytes)) ts in
    let any = λ (ts : List TokenValue). any_of_image is_wide ts in
    (λ i. all (tokens text) i && any (tokens text) i)
    ∙ ap (λ (tokens : List (TokenKind × List ℕ)).
    list_all (λ (token : TokenKind × List ℕ). not (is_lone token.0 token.1)) tokens
    && list_any (λ (token : TokenKind × List ℕ). is_wide token.0 token.1) tokens) same
    ∙ (λ i. sym (all (tokens other)) i && sym (any (tokens other)) i)

-- they spell one map
pub one_map_of_both : (text other : List ℕ) (m n : MapValue) → HaveSameTokens text other → Spells text m
    → Spells other n → n ≡ m
one_map_of_both text other m n same by is =
    let read : items other ≡ items text =
    items_of_image (tokens other)
    ∙ ap (map (λ (token : TokenKind × List ℕ). item token.0 token.1)) (sym same) ∙ sym (items_of_image (tokens text)) in
    one_map text n m (record {
      definitions = is.definitions;
      row = subst (λ its. IsRow its is.definitions) read is.row;
      end = by.end;
      whole = by.whole;
      map = is.map;
    }) by

-- ---- all that is said

-- tokens with the same number begin at places that are related
abbrev Begins : (ℕ → ℕ → Type 0) → List ℕ → List ℕ → Type 0
Begins P text other = Pairwise (BeginAlike P) (map span_of (tokens text)) (map span_of (tokens other))

matched : (P : ℕ → ℕ → Type 0) (text other : List ℕ) (m : MapValue) (rows : List Row) → HaveSameTokens text other
    → Begins P text other → IsSpelledBy text m rows
    → Match P text other (places_of rows) (map span_of (tokens text)) (map span_of (tokens other)) m
matched P text other m rows same begins by = record {
  place = λ n low. pairs_at (BeginAlike P) begins n (record { start = 0; end = 0 }) (record { start = 0; end = 0 }) low;
  octal = octal_there text (map span_of (tokens text));
  bytes = λ n. bytes_are text n ∙ ap (λ token. token.1) (same_token text other same n) ∙ sym (bytes_are other n);
  width = λ n.
      width_is text n ∙ ap (λ token. length token.1) (same_token text other same n) ∙ sym (width_is other n);
  sure = ap (λ b. has_wide m && b) (unicode_same text other same);
  definition =
      subst (λ n. All (λ (p : Placed). p.first < n) (places_of rows)) (sym many) (definitions_there text m rows by);
  slot = λ slot p e n few. subst (λ k. p.first + n < k) (sym many) (slot_there text m rows by slot p e n few);
  accent = λ i p e n few. subst (λ k. p.first + n < k) (sym many) (accent_there text m rows by i p e n few);
}
  where
    many : length (map span_of (tokens text)) ≡ length (tokens text)
    many = length-map (tokens text) span_of

-- what is said of either before directives
abbrev said_of : List ℕ → MapValue → List Row → List Finding → List ℕ → List Diagnostic
said_of text m rows fs untyped =
    all_of (spelled_by text m rows) (cells_in_force (spelled_by text m rows)) fs untyped

said_same : (P : ℕ → ℕ → Type 0) (text other : List ℕ) (m : MapValue) (rows others : List Row)
    → HaveSameTokens text other → Begins P text other → IsSpelledBy text m rows → IsSpelledBy other m others
    → (fs : List Finding) → AreFindings m fs → (untyped : List ℕ)
    → Pairwise (IsSame P) (said_of text m rows fs untyped) (said_of other m others fs untyped)
said_same P text other m rows others same begins by is fs are untyped =
    subst (λ definitions. Pairwise (IsSame P) (said_of text m rows fs untyped)
    (all_of (spelled_with other definitions (map span_of (tokens other)) m)
    (cells_in_force (spelled_with other definitions (map span_of (tokens other)) m)) fs untyped))
    (same_places text other m m rows others same by is)
    (all_of_same P text other (places_of rows) (map span_of (tokens text)) (map span_of (tokens other)) m
    (matched P text other m rows same begins by) fs are.each untyped)

-- ---- in order

-- a token with a greater number begins later
begins_later : (text : List ℕ) (n k : ℕ) → n < k → k < length (tokens text)
    → (span_at (map span_of (tokens text)) n).start < (span_at (map span_of (tokens text)) k).start
begins_later text n k l low = search (rules, nothing, span_is, tokens_are_in_order)

-- a token that begins before another one has a lesser number
begins_first : (text : List ℕ) (n k : ℕ) → n < length (tokens text)
    → (span_at (map span_of (tokens text)) n).start < (span_at (map span_of (tokens text)) k).start → n < k
begins_first text n k low l = search (rules, cases_lt, begins_later)

pub in_order : (text other : List ℕ) → HaveSameTokens text other → (p k q l : ℕ) → IsSameToken text other p q
    → IsSameToken text other k l → (p < k → q < l) × (q < l → p < k)
in_order text other same p k q l (n, low, e, f) (i, few, g, h) =
    search (rules, length-map, begins_first, begins_later)

-- ---- the laws

pub same_token_begins : (text other : List ℕ) → HaveSameTokens text other → Begins (IsSameToken text other) text other
same_token_begins text other same =
    pairs_from (BeginAlike (IsSameToken text other)) none none (map span_of (tokens text)) (map span_of (tokens other))
    (length-map (tokens text) span_of ∙ as_many text other same ∙ sym (length-map (tokens other) span_of))
    (λ n low. (n, low, refl, refl))
  where
    none : Span
    none = record { start = 0; end = 0 }

pub same_tokens_tell_of_the_same : SameTokensTellOfTheSame
same_tokens_tell_of_the_same text other same l k
    (m, spells, (rows, by, (fs, are, is))) (n, spelled, (others, its, (gs, findings, of))) = record {
      slots = is.slots ∙ (λ i. missing_slots (both i)) ∙ sym of.slots;
      keys = is.keys ∙ (λ i. nul_keys (both i) (lists i)) ∙ sym of.keys;
      gaps = is.gaps ∙ (λ i. all_gaps (both i)) ∙ sym of.gaps;
      lost = is.lost ∙ (λ i. lost_letters (both i)) ∙ sym of.lost;
      small =
          is.small ∙ small_slots_same (IsSameToken text other) text other (places_of rows) spans theirs m match
          ∙ (λ i. small_slots (both i)) ∙ sym of.small;
      accents =
          is.accents ∙ missing_accents_same (IsSameToken text other) text other (places_of rows) spans theirs m match
          ∙ (λ i. missing_accents (both i) (cells_in_force (both i))) ∙ sym of.accents;
      unused = is.unused ∙ (λ i. unused_slots (both i)) ∙ sym of.unused;
    }
  where
    spans : List Span
    spans = map span_of (tokens text)

    theirs : List Span
    theirs = map span_of (tokens other)

    match : Match (IsSameToken text other) text other (places_of rows) spans theirs m
    match = matched (IsSameToken text other) text other m rows same (same_token_begins text other same) by

    one : n ≡ m
    one = one_map_of_both text other m n same spells spelled

    lists : fs ≡ gs
    lists = one_list_of_findings m fs gs are (subst (λ v. AreFindings v gs) one findings)

    -- the other text with the definitions and the map of the one, and with its own
    both : spelled_with other (places_of rows) theirs m ≡ spelled_by other n others
    both = λ i. spelled_with other (same_places text other m n rows others same by its i) theirs (sym one i)

module _ (P : ℕ → ℕ → Type 0) (order : AreInOrder P) (text other : List ℕ) (same : HaveSameTokens text other)
    (begins : Begins P text other) where
  low : (m : MapValue) (rows : List Row) → IsSpelledBy text m rows
      → All (λ (d : Placed). d.first < length (map span_of (tokens text))) (places_of rows)
  low m rows by =
      subst (λ n. All (λ (d : Placed). d.first < n) (places_of rows)) (sym (length-map (tokens text) span_of))
      (definitions_there text m rows by)

  -- Comments that begin at related places, and whose words do, are directives that are the same but for places.
  pub same_directive : (m n : MapValue) (rows others : List Row) → IsSpelledBy text m rows → IsSpelledBy other n others
      → (p q : ℕ) → P p q
      → stands_at text (spelled_by text m rows) p ≡ stands_at other (spelled_by other n others) q
      → comment_at text p ≡ comment_at other q
      → ((k : ℕ) → k < length (comment_at text p) → is_between (get_or (comment_at text p) k 0) ≡ false
      → P (p + k) (q + k))
      → Pairwise (IsSameDirective P text other) (directive_at text (spelled_by text m rows) p)
      (directive_at other (spelled_by other n others) q)
  same_directive m n rows others by is =
      directive_same P order text other (spelled_by text m rows) (spelled_by other n others) begins
      (same_places text other m n rows others same by is) (low m rows by)

  -- Of texts with such directives all diagnostics are the same but for places, which are related.
  pub same_diagnostics : ((m n : MapValue) (rows others : List Row) → Spells text m → Spells other n
      → IsSpelledBy text m rows → IsSpelledBy other n others
      → Pairwise (IsSameDirective P text other) (directives text (spelled_by text m rows))
      (directives other (spelled_by other n others)))
      → (l k : Diagnostics) → IsLint text (OfSpelled l) → IsLint other (OfSpelled k) → AnswerTheSame l k
      → Pairwise (IsSame P) l.list.items k.list.items
  same_diagnostics named l k (m, spells, (rows, by, (fs, are, is))) (n, spelled, (others, its, (gs, findings, of)))
      answers =
      ordered_same P order (told text t (never_sticks l.sticking) said) (told other u (never_sticks k.sticking) theirs)
      l.list.items k.list.items
      (subst (λ never. Pairwise (IsSame P) (told text t (never_sticks l.sticking) said) (told other u never theirs))
      answers.never
      (told_same P text other t u
      (definition_same P order text other t u begins (same_places text other m n rows others same by its)
      (low m rows by)) (never_sticks l.sticking) both (named m n rows others spells spelled by its)))
      is.list of.list
    where
      t : Spelled
      t = spelled_by text m rows

      u : Spelled
      u = spelled_by other n others

      one : m ≡ n
      one = sym (one_map_of_both text other m n same spells spelled)

      lists : fs ≡ gs
      lists = one_list_of_findings m fs gs are (subst (λ v. AreFindings v gs) (sym one) findings)

      said : List Diagnostic
      said = said_of text m rows fs l.untyped.items

      theirs : List Diagnostic
      theirs = said_of other n others gs k.untyped.items

      both : Pairwise (IsSame P) said theirs
      both =
          subst (Pairwise (IsSame P) said) (λ i. said_of other (one i) others (lists i) (answers.untyped i))
          (said_same P text other m rows others same begins by
          (subst (λ v. IsSpelledBy other v others) (sym one) its) fs are l.untyped.items)
