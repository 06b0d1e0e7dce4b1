-- Where definitions and their parts stand in a text.
use Rattle.std.proofs.Common.{rules}
use Rattle.keymap_lint.proofs.Common.{◌≡◌, ℕ, ◌+◌, ◌<◌, ◌≤◌, true, false, not, List, [], ◌∷◌, ◌++◌, length, map}
use Rattle.keymap_lint.proofs.Common.{take, get_or, refl, sym, ◌∙◌, ap, subst, arith, Option, Some, None, find}
use Rattle.keymap_lint.proofs.Common.{true≢false, Slot, Placed, MapValue, last_of, is_above_in_force, Spelled}
use Prim.Native.Nat.{zero, suc}
use Rattle.std.proofs.Common.{drop, All, ◌-◌, ◌*◌, ◌==◌, nat_lt}
use Rattle.std.proofs.lemmas.Bool.{and_parts, eqb-true, lt-ltb}
use Rattle.std.proofs.lemmas.Bool.Decides.{nat_tests}
use Rattle.std.proofs.Common.{drop-drop}
use Rattle.std.proofs.lemmas.List.{drop-map, drop-take, get_or-append-add, get_or_append_left, get_or-drop, get_or-map}
use Rattle.std.proofs.lemmas.List.{get_or-take}
use Rattle.std.proofs.lemmas.List.{length-append, length-drop, length-map, length-take, take-map}
use Rattle.std.proofs.lemmas.List.Elements.{All-cons, All-contains, All-nil, All-weaker}
use Rattle.std.proofs.lemmas.Option.{get_or_from_slice_get}
use Rattle.std.specs.Prelude.{Contains, Ok, slice_get}
use Rattle.keymap_core.specs.Accents.{AccentValue, blank, own_of}
use Rattle.keymap_core.specs.Maps.{accent_at, entry_at}
use Rattle.keymap_core.proofs.Shared.{find-true}
use Rattle.keymap_text.specs.Items.{character}
use Rattle.keymap_text.specs.Lexical.{TokenValue}
use Rattle.keymap_text.specs.Meaning.{item_of, tokens}
use Rattle.keymap_places.specs.Placed.{AreRows, IsSpelledBy, Row, begins, defined, is_same, no_row, one_row}
use Rattle.keymap_places.specs.Placed.{places_after}
use Rattle.keymap_places.specs.Placed.{places_of}
use Rattle.keymap_text.specs.Rows.{ArePairs, Definition, Defines, of_accent, of_key}
use Rattle.keymap_places.proofs.Shared.{accent_in_force, accent_tokens, own_at, pair_at}
use Rattle.keymap_lint.specs.Kinds.{base_at, is_above, is_zero, paren}
use Rattle.keymap_lint.specs.Letters.{is_behind, is_slot_behind}
use Rattle.keymap_lint.specs.Lists.{spelled_by}
use Rattle.keymap_lint.specs.Positions.{BeginsAt, BeginsInForceAt, HasCharacter, HasPair, HasToken, IsPairAgain}
use Rattle.keymap_lint.specs.Positions.{IsLockLetter, IsReplaced}
use Rattle.keymap_lint.specs.Shifted.{is_small, is_small_in_force, is_small_slot}
use Rattle.keymap_lint.specs.Spelled.{is_in_force, is_last, offset_at}
use Rattle.keymap_lint.specs.Types.{Accent, Defined}
use Rattle.keymap_lint.proofs.InForce.{last_there, lock_there, nothing, token_at}

-- ---- where a definition begins

heads : {X : Type 0} (x y : X) (xs ys : List X) → x ∷ xs ≡ y ∷ ys → x ≡ y
heads x y xs ys e = cc

-- the first token of a definition begins it
first_begins : {us : _} {d : Definition} → Defines us d → (ts : List TokenValue) → map item_of ts ≡ us
    → (0 < length ts) × (begins (item_of (get_or ts 0 nothing)) ≡ Some (defined d))
first_begins (of_key l eight cells) [] e = absurd (cc)
first_begins (of_key {slot = slot} l eight cells) (t ∷ ts) e = search (rules, heads, lt-ltb)
first_begins (of_accent name index own few pairs) [] e = absurd (cc)
first_begins (of_accent name index own few pairs) (t ∷ ts) e =
    (omega arith, ap begins (heads _ _ _ _ e) ∙ rw (index, begins) refl)

-- Behind so many tokens one begins the definition at this place, where n tokens stand before all.
record Begun (ts : List TokenValue) (n : ℕ) (p : Placed) : Type 0 where
  skipped : ℕ
  first : p.first ≡ n + skipped
  there : skipped < length ts
  name : begins (item_of (get_or ts skipped nothing)) ≡ Some p.what

rows_begin : {ts : List TokenValue} {rows : List Row} → AreRows ts rows → (n : ℕ)
    → All (Begun ts n) (places_after n rows)
unfolding places_after
rows_begin no_row n = All-nil _
rows_begin (one_row {ts = ts} {rs = rs} r d more) n =
    let begun = first_begins d r.tokens refl in
    let size = length-append r.tokens ts in
    All-cons (Begun (r.tokens ++ ts) n) _ _ (record {
      skipped = 0;
      first = omega arith;
      there = omega (arith, begun.0, size);
      name =
          ap (λ t. begins (item_of t)) (get_or_append_left r.tokens ts nothing 0 begun.0) ∙ begun.1;
    })
    (All-weaker (Begun ts (n + length r.tokens)) (Begun (r.tokens ++ ts) n) (λ p b. record {
      skipped = length r.tokens + b.skipped;
      first = omega (arith, b.first);
      there = omega (arith, b.there, size);
      name = ap (λ t. begins (item_of t)) (get_or-append-add r.tokens ts b.skipped nothing) ∙ b.name;
    }) (places_after (n + length r.tokens) rs) (rows_begin more (n + length r.tokens)))

-- each definition of a text begins where it is placed
begins_there : (text : List ℕ) (m : MapValue) (rows : List Row) → IsSpelledBy text m rows
    → All (λ p. HasToken text (offset_at (spelled_by text m rows) p.first)
    (λ token. begins (item_of token) ≡ Some p.what)) (places_of rows)
begins_there text m rows by =
    All-weaker (Begun (tokens text) 0) _ (λ p b.
    let e : b.skipped ≡ p.first = omega (arith, b.first) in
    subst
    (λ (n : ℕ). HasToken text (offset_at (spelled_by text m rows) n) (λ token. begins (item_of token) ≡ Some p.what)) e
    (token_at text m rows b.skipped (λ token. begins (item_of token) ≡ Some p.what) b.there b.name))
    (places_of rows) (rows_begin by.are_rows 0)

-- each definition begins at a token of the text
pub definitions_there : (text : List ℕ) (m : MapValue) (rows : List Row) → IsSpelledBy text m rows
    → All (λ (p : Placed). p.first < length (tokens text)) (places_of rows)
definitions_there text m rows by =
    All-weaker (Begun (tokens text) 0) (λ p. p.first < length (tokens text)) (λ p b. omega (arith, b.first, b.there))
    (places_of rows) (rows_begin by.are_rows 0)

same_defined : (a b : Defined) → is_same a b ≡ true → a ≡ b
same_defined (Slot s) (Slot t) e = ap Slot (eqb-true s t e)
same_defined (Accent i) (Accent j) e = ap Accent (eqb-true i j e)
same_defined (Slot s) (Accent i) e = absurd (true≢false (sym e))
same_defined (Accent i) (Slot s) e = absurd (true≢false (sym e))

begins_at : (text : List ℕ) (m : MapValue) (rows : List Row) → IsSpelledBy text m rows → (what : Defined) (p : Placed)
    → Contains (places_of rows) p → p.what ≡ what
    → BeginsAt text (spelled_by text m rows) what (offset_at (spelled_by text m rows) p.first)
begins_at text m rows by what p among e =
    let P : Placed → Type 0 =
    λ p. HasToken text (offset_at (spelled_by text m rows) p.first)
    (λ token. begins (item_of token) ≡ Some p.what) in
    let named : P p = All-contains P (places_of rows) p (begins_there text m rows by) among in
    record {
      definition = p;
      among = among;
      defines = e;
      at = refl;
      name =
          subst (λ w. HasToken text (offset_at (spelled_by text m rows) p.first)
          (λ token. begins (item_of token) ≡ Some w)) e named;
    }

last_begins : (text : List ℕ) (m : MapValue) (rows : List Row) → IsSpelledBy text m rows → (what : Defined) (p : Placed)
    → last_of what (places_of rows) ≡ Some p
    → BeginsInForceAt text (spelled_by text m rows) what (offset_at (spelled_by text m rows) p.first)
unfolding begins_at
last_begins text m rows by what p e =
    let last = last_there what (places_of rows) p e in
    (begins_at text m rows by what p last.0 (same_defined p.what what last.1), e)

-- a definition that isn't the last one
pub replaced : (text : List ℕ) (m : MapValue) (rows : List Row) → IsSpelledBy text m rows → (p q : Placed)
    → Contains (places_of rows) p → last_of p.what (places_of rows) ≡ Some q → (q.first == p.first) ≡ false
    → IsReplaced text (spelled_by text m rows) p.what (offset_at (spelled_by text m rows) p.first)
    (offset_at (spelled_by text m rows) q.first)
unfolding begins_at last_begins
replaced text m rows by p q among e ne = (
  begins_at text m rows by p.what p among refl,
  last_begins text m rows by p.what q e,
  λ same. apart p.first q.first same ne,
)
  where
    apart : (a b : ℕ) → a ≡ b → (b == a) ≡ false → ⊥
    apart a b same ne = grind (arith, nat_tests, same, ne)

-- the first definition in force of a slot from 128 on
pub unused_there : (text : List ℕ) (m : MapValue) (rows : List Row) → IsSpelledBy text m rows → (p : Placed)
    → find (is_above_in_force (spelled_by text m rows)) (places_of rows) ≡ Some p
    → (slot : ℕ) × (128 ≤ slot)
    × BeginsInForceAt text (spelled_by text m rows) (Slot slot) (offset_at (spelled_by text m rows) p.first)
unused_there text m rows by p e =
    let both = and_parts (is_above p.what) _ (find-true (is_above_in_force t) (places_of rows) p e) in
    go p.what both.0 (last_of p.what (places_of rows)) refl both.1
  where
    t : Spelled
    t = spelled_by text m rows

    upper : (slot : ℕ) → not (nat_lt slot 128) ≡ true → 128 ≤ slot
    upper slot e = grind (arith, nat_tests, e)

    go : (w : Defined) → is_above w ≡ true → (o : Option Placed) → last_of w (places_of rows) ≡ o → is_last p o ≡ true
        → (slot : ℕ) × (128 ≤ slot) × BeginsInForceAt text t (Slot slot) (offset_at t p.first)
    go (Slot slot) above (Some q) f same = (
      slot,
      upper slot above,
      subst (λ (n : ℕ). BeginsInForceAt text t (Slot slot) (offset_at t n)) (eqb-true q.first p.first same)
          (last_begins text m rows by (Slot slot) q f),
    )
    go (Slot slot) above None f same = absurd (true≢false (sym same))
    go (Accent i) above o f same = absurd (true≢false (sym above))

-- a definition of a slot below 128
pub behind_there : (text : List ℕ) (m : MapValue) (rows : List Row) → IsSpelledBy text m rows → (first : ℕ) (p : Placed)
    → Contains (places_of rows) p → is_behind (spelled_by text m rows) first p ≡ true
    → (slot : ℕ) × BeginsAt text (spelled_by text m rows) (Slot slot) (offset_at (spelled_by text m rows) p.first)
behind_there text m rows by first p among passes = go p.what refl passes
  where
    t : Spelled
    t = spelled_by text m rows

    go : (w : Defined) → p.what ≡ w → is_slot_behind t first w ≡ true
        → (slot : ℕ) × BeginsAt text t (Slot slot) (offset_at t p.first)
    go (Slot slot) same h = (slot, begins_at text m rows by (Slot slot) p among same)
    go (Accent i) same h = absurd (true≢false (sym h))

-- the lock letter of the definition in force of a slot with a letter that caps lock leaves small
pub small_there : (text : List ℕ) (m : MapValue) (rows : List Row) → IsSpelledBy text m rows → (p : Placed)
    → is_small_in_force (spelled_by text m rows) p ≡ true
    → (slot : ℕ) × (is_small (spelled_by text m rows) slot ≡ true)
    × HasToken text (offset_at (spelled_by text m rows) (p.first + 9)) (IsLockLetter (entry_at m slot).flag)
small_there text m rows by p passes =
    let both = and_parts (is_in_force t p) (is_small_slot t p.what) passes in
    go p.what both.1 (last_of p.what (places_of rows)) refl both.0
  where
    t : Spelled
    t = spelled_by text m rows

    go : (w : Defined) → is_small_slot t w ≡ true → (o : Option Placed) → last_of w (places_of rows) ≡ o
        → is_last p o ≡ true
        → (slot : ℕ) × (is_small t slot ≡ true)
        × HasToken text (offset_at t (p.first + 9)) (IsLockLetter (entry_at m slot).flag)
    go (Slot slot) small (Some q) f same = search (rules, t, eqb-true, lock_there)
    go (Slot slot) small None f same = absurd (true≢false (sym same))
    go (Accent i) small o f same = absurd (true≢false (sym small))

-- ---- parts of an accent's definition

zero_own : (accents : List AccentValue) (i : ℕ) → is_zero (own_of (slice_get accents i)) ≡ true
    → (get_or accents i blank).own ≡ 0
zero_own [] i e = refl
zero_own (a ∷ accents) zero e = eqb-true a.own 0 e
zero_own (a ∷ accents) (suc i) e = zero_own accents i e

-- the tokens of the definition in force of an accent
abbrev row_of : List ℕ → MapValue → ℕ → Placed → List TokenValue
row_of text m i p = take (4 * length (get_or m.accents i blank).pairs + 2) (drop p.first (tokens text))

-- where the text has them all
row_there : (text : List ℕ) (m : MapValue) (rows : List Row) → IsSpelledBy text m rows → (i : ℕ) (p : Placed)
    → last_of (Accent i) (places_of rows) ≡ Some p
    → (length (row_of text m i p) ≡ 4 * length (get_or m.accents i blank).pairs + 2)
    × (p.first + length (row_of text m i p) ≤ length (tokens text))
row_there text m rows by i p e =
    let a = get_or m.accents i blank in
    let row = row_of text m i p in
    let d = accent_in_force text m rows by i p e in
    let many : length row ≡ 4 * length a.pairs + 2 =
    sym (length-map row item_of) ∙ accent_tokens (map item_of row) i a d in
    let some : length row ≤ length (drop p.first (tokens text)) = rw length-take (omega arith) in
    (many, omega (arith, many, some, length-drop p.first (tokens text)))

pub accent_there : (text : List ℕ) (m : MapValue) (rows : List Row) → IsSpelledBy text m rows → (i : ℕ) (p : Placed)
    → last_of (Accent i) (places_of rows) ≡ Some p → (n : ℕ) → n < 4 * length (get_or m.accents i blank).pairs + 2
    → p.first + n < length (tokens text)
accent_there text m rows by i p e n few =
    let (many, within) = row_there text m rows by i p e in omega (arith, many, within, few)

pub zero_there : (text : List ℕ) (m : MapValue) (rows : List Row) → IsSpelledBy text m rows → (i : ℕ) (p : Placed)
    → last_of (Accent i) (places_of rows) ≡ Some p → is_zero (own_of (accent_at m i)) ≡ true
    → HasCharacter text (spelled_by text m rows) i 0 (offset_at (spelled_by text m rows) (p.first + 1))
zero_there text m rows by i p e z =
    let a = get_or m.accents i blank in
    let row = row_of text m i p in
    let (many, within) = row_there text m rows by i p e in
    let d = accent_in_force text m rows by i p e in
    let there : p.first + 1 < length (tokens text) = omega (arith, many, within) in
    let same : get_or row 1 nothing ≡ get_or (tokens text) (p.first + 1) nothing =
    get_or-take (4 * length a.pairs + 2) (drop p.first (tokens text)) 1 nothing (omega arith)
    ∙ get_or-drop p.first (tokens text) 1 nothing in
    let short : 1 < length row = omega (arith, many) in
    let its = get_or-map item_of row 1 nothing (item_of nothing) short ∙ ap item_of same in
    record {
      definition = p;
      in_force = e;
      at = refl;
      own =
          token_at text m rows (p.first + 1) (λ token. character (item_of token) ≡ Ok 0) there
          (ap character (sym its) ∙ own_at (map item_of row) i a d (item_of nothing) ∙ ap Ok (zero_own m.accents i z));
    }

-- the first ones of the first ones
take_fewer : {X : Type 0} (k n : ℕ) (xs : List X) → k ≤ n → take k (take n xs) ≡ take k xs
take_fewer zero n xs h = refl
take_fewer (suc k) zero xs h = absurd (omega (arith, h))
take_fewer (suc k) (suc n) [] h = refl
take_fewer (suc k) (suc n) (x ∷ xs) h = ap (λ l. x ∷ l) (take_fewer k n xs (omega (arith, h)))

-- four tokens of a row, behind so many
four_of : (ts : List TokenValue) (first k n : ℕ) → k + 4 ≤ n
    → take 4 (drop k (map item_of (take n (drop first ts)))) ≡ map item_of (take 4 (drop (first + k) ts))
four_of ts first k n h =
    let rest : k + (n - k) ≡ n = omega (arith, h) in
    ap (take 4) (drop-map item_of k (take n (drop first ts))
    ∙ ap (λ m. map item_of (drop k (take m (drop first ts)))) (sym rest)
    ∙ ap (map item_of) (drop-take k (n - k) (drop first ts) ∙ ap (take (n - k)) (drop-drop k first ts)))
    ∙ take-map item_of 4 (take (n - k) (drop (first + k) ts))
    ∙ ap (map item_of) (take_fewer 4 (n - k) (drop (first + k) ts) (omega (arith, h)))

pair_there : (text : List ℕ) (m : MapValue) (rows : List Row) → IsSpelledBy text m rows → (i : ℕ) (p : Placed)
    (a : AccentValue) → last_of (Accent i) (places_of rows) ≡ Some p → accent_at m i ≡ Some a → (j : ℕ)
    → j < length a.pairs
    → HasPair text (spelled_by text m rows) i (base_at a.pairs j) j (paren (spelled_by text m rows) p.first j)
pair_there text m rows by i p a e f j low =
    let here : get_or m.accents i blank ≡ a = get_or_from_slice_get m.accents i a blank f in
    let n = 4 * length (get_or m.accents i blank).pairs + 2 in
    let d = accent_in_force text m rows by i p e in
    let few : j < length (get_or m.accents i blank).pairs =
    subst (λ (b : AccentValue). j < length b.pairs) (sym here) low in
    let enough : 4 * j + 2 + 4 ≤ n = omega (arith, few) in
    let same = ap (λ (b : AccentValue). get_or b.pairs j (0, 0)) here in
    record {
      definition = p;
      in_force = e;
      number = p.first + (4 * j + 2);
      behind = omega arith;
      at = refl;
      pair = get_or a.pairs j (0, 0);
      of_base = refl;
      spelled =
          subst (λ ts. ArePairs ts (get_or a.pairs j (0, 0) ∷ [])) (four_of (tokens text) p.first (4 * j + 2) n enough)
          (subst (λ pair. ArePairs (take 4 (drop (4 * j + 2) (map item_of (row_of text m i p)))) (pair ∷ [])) same
          (pair_at (map item_of (row_of text m i p)) i (get_or m.accents i blank) d j few (0, 0)));
    }

-- a pair and one before it with its base
pub again_there : (text : List ℕ) (m : MapValue) (rows : List Row) → IsSpelledBy text m rows → (i : ℕ) (p : Placed)
    (a : AccentValue) → last_of (Accent i) (places_of rows) ≡ Some p → accent_at m i ≡ Some a → (j k : ℕ)
    → j < length a.pairs → k < j → base_at a.pairs k ≡ base_at a.pairs j
    → IsPairAgain text (spelled_by text m rows) i (base_at a.pairs j) (paren (spelled_by text m rows) p.first k)
    (paren (spelled_by text m rows) p.first j)
again_there text m rows by i p a e f j k low less same = (
  k,
  j,
  less,
  subst (λ base. HasPair text (spelled_by text m rows) i base k (paren (spelled_by text m rows) p.first k)) same
      (pair_there text m rows by i p a e f k (omega (arith, low, less))),
  pair_there text m rows by i p a e f j low,
)
