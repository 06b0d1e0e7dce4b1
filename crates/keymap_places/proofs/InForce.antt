-- The last definition of what a map has is the one in force.
use Rattle.keymap_places.proofs.Common.{◌≡◌, ℕ, ◌+◌, ◌*◌, Bool, true, false, cond, List, [], ◌∷◌, length, take, drop}
use Rattle.keymap_places.proofs.Common.{map}
use Rattle.keymap_places.proofs.Common.{get_or, refl, sym, ◌∙◌, ap, subst, arith, Option, Some, None, length-map}
use Rattle.keymap_places.proofs.Common.{none-some, same_Some, drop-append-add, take-append_seam, option_or, Entry}
use Rattle.keymap_places.proofs.Common.{Defined, Slot, Accent, Placed, AccentValue, blank, MapValue, undefined}
use Rattle.keymap_places.proofs.Common.{TokenValue, item_of, tokens, Definition, KeyDefinition, AccentDefinition}
use Rattle.keymap_places.proofs.Common.{Defines}
use Rattle.keymap_places.proofs.Common.{last, of_slot, of_index, or_default, Row, AreRows, no_row, one_row, IsSpelledBy}
use Rattle.keymap_places.proofs.Common.{defined, places_after, places_of, is_same, last_of, empty_map, ap₂, ⊎_elim, ◌⊎◌}
use Rattle.keymap_places.proofs.Common.{Item}
use Rattle.keymap_text.proofs.Shared.{accents_of, entries_of, last_more, last_none, puts_are}
use Rattle.keymap_places.proofs.Parts.{slot_tokens, accent_tokens}

-- the definitions of rows
abbrev definitions : List Row → List Definition
definitions rows = map (λ (r : Row). r.definition) rows

-- the place of a row, if it defines this
abbrev own : Defined → ℕ → Row → Option Placed
own what n r =
    cond (is_same (defined r.definition) what) (Some (record { what = defined r.definition; first = n })) None

-- the last definition stands in the rows behind the first, or else is that of the first row
last_place : (what : Defined) (n : ℕ) (r : Row) (rs : List Row)
    → last_of what (places_after n (r ∷ rs))
    ≡ option_or (last_of what (places_after (n + length r.tokens) rs))
    (own what n r)
unfolding last_of places_after
last_place what n r rs = refl

last_nowhere : (what : Defined) (n : ℕ) → last_of what (places_after n []) ≡ None
unfolding last_of places_after
last_nowhere what n = refl

-- where a row and the others define something last
last_or : (o : Option Placed) (b : Bool) (here p : Placed) → option_or o (cond b (Some here) None) ≡ Some p
    → (o ≡ Some p) ⊎ ((o ≡ None) × (b ≡ true) × (here ≡ p))
last_or o b here p h = grind (arith, none-some, same_Some)

last_neither : (o : Option Placed) (b : Bool) (here : Placed) → option_or o (cond b (Some here) None) ≡ None
    → (o ≡ None) × (b ≡ false)
last_neither o b here h = grind (arith, none-some)

-- What says something exactly of the definitions of one slot or accent.
record SaysOf (A : Type 0) (says : Definition → Option A) (what : Defined) : Type 0 where
  quiet : (d : Definition) → is_same (defined d) what ≡ false → says d ≡ None
  tells : (d : Definition) → is_same (defined d) what ≡ true → (x : A) × (says d ≡ Some x)

-- what no row defines, no definition says
none_said : {A : Type 0} (says : Definition → Option A) (what : Defined) → SaysOf A says what → (rows : List Row)
    (n : ℕ) → last_of what (places_after n rows) ≡ None → last says (definitions rows) ≡ None
none_said says what h [] n e = last_none says
none_said says what h (r ∷ rs) n e =
    let k = last_neither _ _ _ (sym (last_place what n r rs) ∙ e) in
    last_more says r.definition (definitions rs)
    ∙ ap₂ option_or (none_said says what h rs (n + length r.tokens) k.0) (h.quiet r.definition k.1)

-- The row that defines something last.
record LastRow (A : Type 0) (says : Definition → Option A) (what : Defined) (ts : List TokenValue)
    (ds : List Definition) (n : ℕ) (p : Placed) : Type 0 where
  row : Row
  skipped : ℕ
  first : p.first ≡ n + skipped
  there : take (length row.tokens) (drop skipped ts) ≡ row.tokens
  defines : Defines (map item_of row.tokens) row.definition
  is : is_same (defined row.definition) what ≡ true
  says_it : last says ds ≡ says row.definition

last_row : {A : Type 0} (says : Definition → Option A) (what : Defined) → SaysOf A says what → {ts : List TokenValue}
    {rows : List Row} → AreRows ts rows → (n : ℕ) (p : Placed) → last_of what (places_after n rows) ≡ Some p
    → LastRow A says what ts (definitions rows) n p
last_row says what h no_row n p e = absurd (none-some p (sym (last_nowhere what n) ∙ e))
last_row says what h (one_row {ts = ts} {rs = rs} r d more) n p e = ⊎_elim
    (λ f.
    let l = last_row says what h more (n + length r.tokens) p f in
    let told = h.tells l.row.definition l.is in
    record {
      row = l.row;
      skipped = length r.tokens + l.skipped;
      first = l.first ∙ omega arith;
      there = ap (take (length l.row.tokens)) (drop-append-add r.tokens ts l.skipped) ∙ l.there;
      defines = l.defines;
      is = l.is;
      says_it =
          last_more says r.definition (definitions rs)
          ∙ ap (λ o. option_or o (says r.definition)) (l.says_it ∙ told.1) ∙ sym told.1;
    })
    (λ k. record {
      row = r;
      skipped = 0;
      first = ap (λ (p : Placed). p.first) (sym k.2) ∙ omega arith;
      there = take-append_seam r.tokens ts;
      defines = d;
      is = k.1;
      says_it =
          last_more says r.definition (definitions rs)
          ∙ ap (λ o. option_or o (says r.definition)) (none_said says what h rs (n + length r.tokens) k.0);
    })
    (last_or _ _ _ p (sym (last_place what n r rs) ∙ e))

-- what is said of a slot
says_slot : (slot : ℕ) → SaysOf Entry (of_slot slot) (Slot slot)
says_slot slot = record { quiet = λ d h. grind arith; tells = tells }
  where
    tells : (d : Definition) → is_same (defined d) (Slot slot) ≡ true → (e : Entry) × (of_slot slot d ≡ Some e)
    tells (KeyDefinition s e) h = (e, ap (λ b. cond b (Some e) None) h)
    tells (AccentDefinition i a) h = absurd (cc)

-- what is said of an accent
says_index : (i : ℕ) → SaysOf AccentValue (of_index i) (Accent i)
says_index i = record { quiet = λ d h. grind arith; tells = tells }
  where
    tells : (d : Definition) → is_same (defined d) (Accent i) ≡ true → (a : AccentValue) × (of_index i d ≡ Some a)
    tells (KeyDefinition s e) h = absurd (cc)
    tells (AccentDefinition j a) h = (a, ap (λ b. cond b (Some a) None) h)

-- what a row of a slot defines
slot_row : (d : Definition) (slot : ℕ) → is_same (defined d) (Slot slot) ≡ true
    → d ≡ KeyDefinition slot (or_default (of_slot slot d) undefined)
slot_row d slot h = grind arith

index_row : (d : Definition) (i : ℕ) → is_same (defined d) (Accent i) ≡ true
    → d ≡ AccentDefinition i (or_default (of_index i d) blank)
index_row d i h = grind arith

-- the entry and the accent that the definitions make
entry_spelled : (text : List ℕ) (m : MapValue) (rows : List Row) → IsSpelledBy text m rows → (slot : ℕ)
    → get_or m.entries slot undefined ≡ or_default (last (of_slot slot) (definitions rows)) undefined
entry_spelled text m rows h slot =
    ap (λ (m : MapValue). get_or m.entries slot undefined) (h.spelled ∙ sym (puts_are (definitions rows)))
    ∙ entries_of empty_map (definitions rows) slot

accent_spelled : (text : List ℕ) (m : MapValue) (rows : List Row) → IsSpelledBy text m rows → (i : ℕ)
    → get_or m.accents i blank ≡ or_default (last (of_index i) (definitions rows)) blank
accent_spelled text m rows h i =
    ap (λ (m : MapValue). get_or m.accents i blank) (h.spelled ∙ sym (puts_are (definitions rows)))
    ∙ accents_of empty_map (definitions rows) i

-- the tokens of the row that defines something last are its definition in the map
in_force : {A : Type 0} (says : Definition → Option A) (what : Defined) → SaysOf A says what → (text : List ℕ)
    (m : MapValue) (rows : List Row) → IsSpelledBy text m rows → (n : ℕ) (d : Definition) (p : Placed)
    → last_of what (places_of rows) ≡ Some p
    → ((f : Definition) → is_same (defined f) what ≡ true → last says (definitions rows) ≡ says f → f ≡ d)
    → ((ts : List Item) → Defines ts d → length ts ≡ n) → Defines (map item_of (take n (drop p.first (tokens text)))) d
in_force says what k text m rows h n d p e is size =
    let f = last_row says what k h.are_rows 0 p e in
    let defines = subst (Defines (map item_of f.row.tokens)) (is f.row.definition f.is f.says_it) f.defines in
    let many = sym (length-map f.row.tokens item_of) ∙ size (map item_of f.row.tokens) defines in
    let place : f.skipped ≡ p.first = omega (arith, f.first) in
    let there = sym f.there ∙ ap₂ (λ n k. take n (drop k (tokens text))) many place in
    subst (λ (ts : List TokenValue). Defines (map item_of ts) d) there defines

pub slot_in_force : (text : List ℕ) (m : MapValue) (rows : List Row) → IsSpelledBy text m rows → (slot : ℕ) (p : Placed)
    → last_of (Slot slot) (places_of rows) ≡ Some p
    → Defines (map item_of (take 10 (drop p.first (tokens text))))
    (KeyDefinition slot (get_or m.entries slot undefined))
slot_in_force text m rows h slot p e =
    in_force (of_slot slot) (Slot slot) (says_slot slot) text m rows h 10 _ p e
    (λ d is says. slot_row d slot is ∙ ap (KeyDefinition slot) (sym (entry_spelled text m rows h slot
    ∙ ap (λ o. or_default o undefined) says))) (λ ts. slot_tokens ts slot _)

pub no_slot : (text : List ℕ) (m : MapValue) (all : List Row) → IsSpelledBy text m all → (slot : ℕ)
    → last_of (Slot slot) (places_of all) ≡ None → get_or m.entries slot undefined ≡ undefined
no_slot text m all h slot e =
    entry_spelled text m all h slot
    ∙ ap (λ o. or_default o undefined) (none_said (of_slot slot) (Slot slot) (says_slot slot) all 0 e)

pub accent_in_force : (text : List ℕ) (m : MapValue) (rows : List Row) → IsSpelledBy text m rows → (i : ℕ) (p : Placed)
    → last_of (Accent i) (places_of rows) ≡ Some p
    → Defines (map item_of (take (4 * length (get_or m.accents i blank).pairs + 2) (drop p.first (tokens text))))
    (AccentDefinition i (get_or m.accents i blank))
accent_in_force text m rows h i p e =
    in_force (of_index i) (Accent i) (says_index i) text m rows h _ _ p e
    (λ d is says. index_row d i is ∙ ap (AccentDefinition i) (sym (accent_spelled text m rows h i
    ∙ ap (λ o. or_default o blank) says))) (λ ts. accent_tokens ts i _)

pub no_accent : (text : List ℕ) (m : MapValue) (all : List Row) → IsSpelledBy text m all → (i : ℕ)
    → last_of (Accent i) (places_of all) ≡ None → get_or m.accents i blank ≡ blank
no_accent text m all h i e =
    accent_spelled text m all h i
    ∙ ap (λ o. or_default o blank) (none_said (of_index i) (Accent i) (says_index i) all 0 e)
