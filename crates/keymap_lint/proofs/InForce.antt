-- The cells in force are tokens that spell what the map has there.
use Rattle.keymap_lint.proofs.Common.{◌≡◌, ℕ, ◌+◌, ◌<◌, ◌≤◌, Bool, true, false, List, [], ◌∷◌, length, map, take}
use Rattle.keymap_lint.proofs.Common.{get_or, refl, sym, ◌∙◌, ap, subst, arith, Option, Some, None, flat_map}
use Rattle.keymap_lint.proofs.Common.{true≢false, get_or-map-range_with_len, Slot, Placed, MapValue, last_of, rules}
use Rattle.keymap_lint.proofs.Common.{Spelled, cell_in, cells_of}
use Prim.Native.Nat.{zero, suc}
use Rattle.std.proofs.Common.{drop, inl, inr, All, ◌==◌, length-drop}
use Rattle.std.proofs.lemmas.Bool.{cases_lt, eqb-true}
use Rattle.std.proofs.lemmas.List.{get_or_past, get_or-map, get_or-take, get_or-drop, length-take, length-map}
use Rattle.std.proofs.lemmas.List.Elements.{All-nil, Contains-append_left, Contains-append_right, Contains-get_or}
use Rattle.std.specs.Prelude.{Contains, Ok, if◌then◌else◌}
use Rattle.std.specs.Option.{option_or}
use Rattle.std.specs.List.{range_with_len}
use Rattle.std.proofs.lemmas.Bool.Decides.{nat_tests}
use Rattle.std.proofs.lemmas.List.FromFn.{length-map-range_with_len}
use Rattle.keymap_lint.specs.Types.{Char, Defined, Accent, CellInForce}
use Rattle.keymap_core.specs.Maps.{cell_at, entry_at}
use Rattle.keymap_text.specs.declared.token.TokenKind.TheVariants.{Word}
use Rattle.keymap_text.specs.Items.{cell}
use Rattle.keymap_text.specs.Lexical.{TokenValue}
use Rattle.keymap_text.specs.Meaning.{item_of, tokens}
use Rattle.keymap_places.specs.Placed.{Row, IsSpelledBy, IsPlaced, is_same, span_of, places_of}
use Rattle.keymap_text.specs.Rows.{Defines, KeyDefinition}
use Rattle.keymap_text.specs.declared.words.Item.{Item}
use Rattle.keymap_text.specs.declared.words.Item.TheVariants.{Value}
use Rattle.keymap_text.specs.declared.words.Meaning.TheVariants.{Letter}
use Rattle.keymap_places.proofs.Shared.{cell_at as cell_of_part, lock_at, slot_in_force, slot_tokens}
use Rattle.keymap_places.proofs.Shared.{tokens_are_placed}
use Rattle.keymap_lint.specs.Lists.{spelled_by}
use Rattle.keymap_lint.specs.Positions.{HasToken, IsLockLetter, SpellsCell, CellsInForceAreSpelled}
use Rattle.keymap_lint.specs.Spelled.{offset_at, cells_defined, cells_in_force, is_in_force, is_last, content}
use Rattle.keymap_lint.proofs.Each.{all_flat}

-- ---- tokens

-- a token that no text has
pub nothing : TokenValue
nothing = record { kind = Word; bytes = []; start = 0; last = false }

nothing_placed : (text : List ℕ) → IsPlaced text nothing
unfolding nothing
nothing_placed text = record { within = omega arith; bytes = refl }

pub span_is : (ts : List TokenValue) (n : ℕ)
    → get_or (map span_of ts) n (record { start = 0; end = 0 }) ≡ span_of (get_or ts n nothing)
unfolding nothing
span_is ts n = elim (cases_lt n (length ts)) [
  | inl l ↦ get_or-map span_of ts n nothing (record { start = 0; end = 0 }) l
  | inr l ↦
      let e : length (map span_of ts) ≤ n = omega (arith, length-map ts span_of) in
      get_or_past (map span_of ts) n (record { start = 0; end = 0 }) e
      ∙ ap span_of (sym (get_or_past ts n nothing l))
]

pub placed_at : (text : List ℕ) (n : ℕ) → IsPlaced text (get_or (tokens text) n nothing)
placed_at text n = search (rules, cases_lt, tokens_are_placed, nothing, get_or_past, nothing_placed)

-- each token begins within the text
pub within : (text : List ℕ) (m : MapValue) (rows : List Row) (n : ℕ)
    → offset_at (spelled_by text m rows) n ≤ length text
within text m rows n = search (rules, nothing, span_is, placed_at)

-- the token with a number, by its place
pub token_at : (text : List ℕ) (m : MapValue) (rows : List Row) (n : ℕ)
    (IsSuch : TokenValue → Type 0) → n < length (tokens text) → IsSuch (get_or (tokens text) n nothing)
    → HasToken text (offset_at (spelled_by text m rows) n) IsSuch
token_at text m rows n IsSuch there such = search (rules, nothing, Contains-get_or, span_is)

-- the tokens of the definition in force of a slot
abbrev row_of_slot : List ℕ → Placed → List TokenValue
row_of_slot text p = take 10 (drop p.first (tokens text))

-- the text has them all
row_there : (text : List ℕ) (m : MapValue) (rows : List Row) → IsSpelledBy text m rows → (slot : ℕ) (p : Placed)
    → last_of (Slot slot) (places_of rows) ≡ Some p
    → (length (row_of_slot text p) ≡ 10) × (p.first + length (row_of_slot text p) ≤ length (tokens text))
row_there text m rows by slot p e =
    let row = row_of_slot text p in
    let ten : length row ≡ 10 =
    sym (length-map row item_of)
    ∙ slot_tokens (map item_of row) slot (entry_at m slot) (slot_in_force text m rows by slot p e) in
    let some : length row ≤ length (drop p.first (tokens text)) = rw length-take (omega arith) in
    (ten, omega (arith, ten, some, length-drop p.first (tokens text)))

pub slot_there : (text : List ℕ) (m : MapValue) (rows : List Row) → IsSpelledBy text m rows → (slot : ℕ) (p : Placed)
    → last_of (Slot slot) (places_of rows) ≡ Some p → (n : ℕ) → n < 10 → p.first + n < length (tokens text)
slot_there text m rows by slot p e n few =
    let (ten, all) = row_there text m rows by slot p e in omega (arith, ten, all, few)

-- a token of the definition in force of a slot
slot_part : (text : List ℕ) (m : MapValue) (rows : List Row) → IsSpelledBy text m rows → (slot : ℕ) (p : Placed)
    → last_of (Slot slot) (places_of rows) ≡ Some p → (n : ℕ) → n < 10 → (IsSuch : Item → Type 0)
    → ((items : List Item) → Defines items (KeyDefinition slot (entry_at m slot))
    → IsSuch (get_or items n (item_of nothing)))
    → HasToken text (offset_at (spelled_by text m rows) (p.first + n)) (λ token. IsSuch (item_of token))
slot_part text m rows by slot p e n few IsSuch such =
    let row = row_of_slot text p in
    let (ten, all) = row_there text m rows by slot p e in
    let there : p.first + n < length (tokens text) = omega (arith, ten, all, few) in
    let same : get_or row n nothing ≡ get_or (tokens text) (p.first + n) nothing =
    get_or-take 10 (drop p.first (tokens text)) n nothing few ∙ get_or-drop p.first (tokens text) n nothing in
    let short : n < length row = omega (arith, ten, few) in
    let its = get_or-map item_of row n nothing (item_of nothing) short ∙ ap item_of same in
    token_at text m rows (p.first + n) (λ token. IsSuch (item_of token)) there
    (subst IsSuch its (such (map item_of row) (slot_in_force text m rows by slot p e)))

-- a cell of the definition in force
pub spelled_at : (text : List ℕ) (m : MapValue) (rows : List Row) → IsSpelledBy text m rows → (slot : ℕ) (p : Placed)
    → last_of (Slot slot) (places_of rows) ≡ Some p → (column : ℕ) → column < 8
    → SpellsCell text (offset_at (spelled_by text m rows) (p.first + (1 + column))) (cell_at m slot column)
spelled_at text m rows by slot p e column few =
    slot_part text m rows by slot p e (1 + column) (omega (arith, few)) (λ item. cell item ≡ Ok (cell_at m slot column))
    (λ items d. ap (λ n. cell (get_or items n (item_of nothing))) (omega arith)
    ∙ cell_of_part items slot (entry_at m slot) d column few (item_of nothing) (Char 0))

-- its lock letter
pub lock_there : (text : List ℕ) (m : MapValue) (rows : List Row) → IsSpelledBy text m rows → (slot : ℕ) (p : Placed)
    → last_of (Slot slot) (places_of rows) ≡ Some p
    → HasToken text (offset_at (spelled_by text m rows) (p.first + 9)) (IsLockLetter (entry_at m slot).flag)
lock_there text m rows by slot p e =
    slot_part text m rows by slot p e 9 (omega arith) (λ item. item ≡ Value (Letter (entry_at m slot).flag))
    (λ items d. lock_at items slot (entry_at m slot) d (item_of nothing))

-- ---- the cells in force

-- what an element gives is among what all give
among_flat : {X Y : Type 0} (f : X → List Y) (y : Y) (xs : List X) (x : X) → Contains xs x → Contains (f x) y
    → Contains (flat_map f xs) y
among_flat f y [] x (k, l, e) h = absurd (omega (arith, l))
among_flat f y (z ∷ xs) x (zero, l, e) h =
    Contains-append_left (f z) (flat_map f xs) y (subst (λ u. Contains (f u) y) (sym e) h)
among_flat f y (z ∷ xs) x (suc k, l, e) h =
    Contains-append_right (f z) (flat_map f xs) y (among_flat f y xs x (k, omega (arith, l), e) h)

-- the last definition of something is one of the definitions, and defines it
pub last_there : (what : Defined) (ps : List Placed) (p : Placed) → last_of what ps ≡ Some p
    → Contains ps p × (is_same p.what what ≡ true)
unfolding last_of
last_there what [] p e = absurd (cc)
last_there what (q ∷ ps) p e =
    go (last_of what ps) (λ f. last_there what ps p f) (is_same q.what what) refl e
  where
    go : (o : Option Placed) → (o ≡ Some p → Contains ps p × (is_same p.what what ≡ true)) → (b : Bool)
        → is_same q.what what ≡ b → option_or o (if b then Some q else None) ≡ Some p
        → Contains (q ∷ ps) p × (is_same p.what what ≡ true)
    go (Some r) later b g h =
        let rest = later h in ((suc (rest.0.0), omega (arith, rest.0.1), rest.0.2), rest.1)
    go None later true g h =
        let same : q ≡ p = cc in ((zero, omega arith, same), subst (λ (r : Placed). is_same r.what what ≡ true) same g)
    go None later false g h = absurd (cc)

same_number : (n : ℕ) → (n == n) ≡ true
same_number n = grind (arith, nat_tests)

same_slot : (what : Defined) (slot : ℕ) → is_same what (Slot slot) ≡ true → what ≡ Slot slot
same_slot (Slot s) slot e = ap Slot (eqb-true s slot e)
same_slot (Accent i) slot e = absurd (true≢false (sym e))

-- each cell of the last definition of a slot is in force
pub in_force_there : (t : Spelled) (slot : ℕ) (p : Placed) → last_of (Slot slot) t.definitions ≡ Some p → (column : ℕ)
    → column < 8 → Contains (cells_in_force t) (cell_in t slot p.first column)
in_force_there t slot p e column few =
    let last = last_there (Slot slot) t.definitions p e in
    let what : p.what ≡ Slot slot = same_slot p.what slot last.1 in
    let here : is_in_force t p ≡ true =
    ap (λ w. is_last p (last_of w t.definitions)) what ∙ ap (is_last p) e ∙ same_number p.first in
    let cells : cells_of t p ≡ map (cell_in t slot p.first) (range_with_len 0 8) =
    ap (λ b. if b then cells_defined t p.what p.first else []) here ∙ ap (λ w. cells_defined t w p.first) what in
    let d = cell_in t slot p.first column in
    let long : column < length (map (cell_in t slot p.first) (range_with_len 0 8)) =
    omega (arith, few, length-map-range_with_len (cell_in t slot p.first) 0 8) in
    let among : Contains (map (cell_in t slot p.first) (range_with_len 0 8)) d =
    subst (Contains (map (cell_in t slot p.first) (range_with_len 0 8)))
    (get_or-map-range_with_len (cell_in t slot p.first) 0 8 column column d few (omega arith))
    (Contains-get_or (map (cell_in t slot p.first) (range_with_len 0 8)) column d long) in
    among_flat (cells_of t) d t.definitions p last.0 (subst (λ cs. Contains cs d) (sym cells) among)

pub cells_in_force_are_spelled : CellsInForceAreSpelled
cells_in_force_are_spelled text m rows by =
    all_flat IsThere (λ p. Unit {0}) (cells_of t) of_one t.definitions (λ k d l. tt)
  where
    t : Spelled
    t = spelled_by text m rows

    IsThere : CellInForce → Type 0
    IsThere c = SpellsCell text c.span.start (content t c)

    in_force : (p : Placed) (slot : ℕ) (o : Option Placed) → last_of (Slot slot) t.definitions ≡ o → is_last p o ≡ true
        → (q : Placed) × (last_of (Slot slot) t.definitions ≡ Some q) × (q.first ≡ p.first)
    in_force p slot (Some q) e f = (q, e, eqb-true q.first p.first f)
    in_force p slot None e f = absurd (true≢false (sym f))

    of_what : (p : Placed) (w : Defined) → is_last p (last_of w t.definitions) ≡ true
        → All IsThere (cells_defined t w p.first)
    of_what p (Slot slot) f =
        let q = in_force p slot (last_of (Slot slot) t.definitions) refl f in
        λ k d l.
        let few : k < 8 = omega (arith, l, length-map-range_with_len (cell_in t slot p.first) 0 8) in
        subst IsThere (sym (get_or-map-range_with_len (cell_in t slot p.first) 0 8 k k d few (omega arith)))
        (subst (λ (n : ℕ). SpellsCell text (offset_at t (n + (1 + k))) (cell_at m slot k)) q.2
        (spelled_at text m rows by slot q.0 q.1 k few))
    of_what p (Accent i) f = All-nil IsThere

    of_one : (p : Placed) → Unit {0} → All IsThere (cells_of t p)
    of_one p x = search (rules, t, IsThere, of_what, All-nil)
