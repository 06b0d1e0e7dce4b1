-- Where definitions begin is where their rows begin.
use Rattle.keymap_places.proofs.Common.{◌≡◌, ℕ, suc, ◌+◌, ◌<◌, true, false, List, [], ◌∷◌, ◌++◌, length, map, refl, sym}
use Rattle.keymap_places.proofs.Common.{◌∙◌, ap, ap₂, subst, arith, Some, length-append, append_assoc, length-map}
use Rattle.keymap_places.proofs.Common.{Action}
use Rattle.keymap_places.proofs.Common.{Defined, Slot, Accent, TokenKind, Meaning, Number, Act, Letter, Item, Open}
use Rattle.keymap_places.proofs.Common.{Close}
use Rattle.keymap_places.proofs.Common.{Value, MapValue, accent_index, item, TokenValue, item_of, tokens, Spells}
use Rattle.keymap_places.proofs.Common.{Definition, ArePairs, no_pairs, one_pair, Defines, of_key, of_accent, IsRow}
use Rattle.keymap_places.proofs.Common.{no_definition, one_definition, map_of, Row, AreRows, no_row, one_row}
use Rattle.keymap_places.proofs.Common.{IsSpelledBy}
use Rattle.keymap_places.proofs.Common.{defined, places_after, places_of, begins, behind, is_open, begun}
use Rattle.keymap_places.proofs.Parts.{count_cells}

-- A list whose image begins with u.
record Begins (ts : List TokenValue) (u : Item) (us : List Item) : Type 0 where
  front : TokenValue
  rest : List TokenValue
  whole : ts ≡ front ∷ rest
  is : item_of front ≡ u
  others : map item_of rest ≡ us

begins_with : (ts : List TokenValue) (u : Item) (us : List Item) → map item_of ts ≡ u ∷ us → Begins ts u us
begins_with [] u us h = absurd (cc)
begins_with (t ∷ ts) u us h = record { front = t; rest = ts; whole = refl; is = cc; others = cc }

-- A list whose image is of two parts.
record Parts (ts : List TokenValue) (us vs : List Item) : Type 0 where
  front : List TokenValue
  rest : List TokenValue
  whole : ts ≡ front ++ rest
  is : map item_of front ≡ us
  others : map item_of rest ≡ vs

parts : (us vs : List Item) (ts : List TokenValue) → map item_of ts ≡ us ++ vs → Parts ts us vs
parts [] vs ts h = record { front = []; rest = ts; whole = refl; is = refl; others = h }
parts (u ∷ us) vs ts h =
    let b : Begins ts u (us ++ vs) = begins_with ts u (us ++ vs) h in
    let p : Parts b.rest us vs = parts us vs b.rest b.others in
    record {
      front = b.front ∷ p.front;
      rest = p.rest;
      whole = b.whole ∙ ap (λ ts. b.front ∷ ts) p.whole;
      is = ap₂ (λ x xs. x ∷ xs) b.is p.is;
      others = p.others;
    }

-- a token that belongs to what has begun
in_it : (left n : ℕ) (t : TokenValue) (ts : List TokenValue) → begun (suc left) n (t ∷ ts) ≡ begun left (n + 1) ts
unfolding begun
in_it left n t ts = refl

-- tokens that do
all_in_it : (a ts : List TokenValue) (n : ℕ) → begun (length a) n (a ++ ts) ≡ begun 0 (n + length a) ts
all_in_it [] ts n = ap (λ k. begun 0 k ts) (omega arith)
all_in_it (t ∷ a) ts n = grind (arith, in_it, (all_in_it a ts (n + 1)))

-- a pair begins
opens : (n : ℕ) (t : TokenValue) (ts : List TokenValue) → is_open t.kind ≡ true
    → begun 0 n (t ∷ ts) ≡ begun 3 (n + 1) ts
unfolding begun
opens n t ts h = rw (begun, h) refl

-- a definition begins
starts : (n : ℕ) (t : TokenValue) (ts : List TokenValue) (what : Defined) → is_open t.kind ≡ false
    → begins (item_of t) ≡ Some what
    → begun 0 n (t ∷ ts) ≡ record { what = what; first = n } ∷ begun (behind what) (n + 1) ts
unfolding begun
starts n t ts what h e = rw (begun, h, e) refl

-- an opening parenthesis is one
open_is : (k : TokenKind) (w : List ℕ) → item k w ≡ Open → is_open k ≡ true
open_is k w h = grind arith

not_open : (k : TokenKind) (w : List ℕ) (m : Meaning) → item k w ≡ Value m → is_open k ≡ false
not_open k w m h = grind arith

-- as many tokens as items
as_many : (ts : List TokenValue) (us : List Item) → map item_of ts ≡ us → length ts ≡ length us
as_many ts us h = sym (length-map ts item_of) ∙ ap length h

-- pairs begin no definition
pairs_in_it : {us : List Item} {ps : List (ℕ × ℕ)} → ArePairs us ps → (a ts : List TokenValue) (n : ℕ)
    → map item_of a ≡ us → begun 0 n (a ++ ts) ≡ begun 0 (n + length a) ts
pairs_in_it no_pairs [] ts n h = all_in_it [] ts n
pairs_in_it no_pairs (t ∷ a) ts n h = absurd (cc)
pairs_in_it (one_pair {t = t} {u = u} {ts = us} f z g more) a ts n h =
    let b : Begins a Open (t ∷ u ∷ Close ∷ us) = begins_with a Open (t ∷ u ∷ Close ∷ us) h in
    let p : Parts b.rest (t ∷ u ∷ Close ∷ []) us = parts (t ∷ u ∷ Close ∷ []) us b.rest b.others in
    let three : 3 ≡ length p.front = sym (as_many p.front (t ∷ u ∷ Close ∷ []) p.is) in
    let whole : a ≡ b.front ∷ (p.front ++ p.rest) = b.whole ∙ ap (λ ts. b.front ∷ ts) p.whole in
    let place : n + 1 + length p.front + length p.rest ≡ n + length a =
    omega (arith, ap length whole, length-append p.front p.rest) in
    ap (λ a. begun 0 n (a ++ ts)) whole
    ∙ opens n b.front ((p.front ++ p.rest) ++ ts) (open_is b.front.kind b.front.bytes b.is)
    ∙ ap₂ (λ k ts. begun k (n + 1) ts) three (append_assoc p.front p.rest ts)
    ∙ all_in_it p.front (p.rest ++ ts) (n + 1)
    ∙ pairs_in_it more p.rest ts (n + 1 + length p.front) p.others
    ∙ ap (λ k. begun 0 k ts) place

-- a number in front begins a slot's definition
slot_begins : (i : Item) (slot : ℕ) → i ≡ Value (Number slot) → slot < 256 → begins i ≡ Some (Slot slot)
slot_begins i slot h l = grind arith

-- a name in front begins an accent's definition
accent_begins : (i : Item) (name : Action) (index : ℕ) → i ≡ Value (Act name) → accent_index name ≡ Some index
    → begins i ≡ Some (Accent index)
accent_begins i name index h e = ap begins h ∙ rw (e, begins) refl

-- the tokens of a definition begin that definition alone, with the first of them
row_begins : {us : List Item} {d : Definition} → Defines us d → (a ts : List TokenValue) (n : ℕ) → map item_of a ≡ us
    → begun 0 n (a ++ ts) ≡ record { what = defined d; first = n } ∷ begun 0 (n + length a) ts
row_begins (of_key {slot = slot} {e = e} {ts = us} l eight cells) a ts n h =
    let rest = us ++ Value (Letter e.flag) ∷ [] in
    let b : Begins a (Value (Number slot)) rest = begins_with a (Value (Number slot)) rest h in
    let many = as_many b.rest rest b.others in
    let size = length-append us (Value (Letter e.flag) ∷ []) in
    let nine : 9 ≡ length b.rest = omega (arith, count_cells cells) in
    let place : n + 1 + length b.rest ≡ n + length a = omega (arith, ap length b.whole) in
    ap (λ a. begun 0 n (a ++ ts)) b.whole
    ∙ starts n b.front (b.rest ++ ts) (Slot slot) (not_open b.front.kind b.front.bytes (Number slot) b.is)
    (slot_begins (item_of b.front) slot b.is l)
    ∙ ap (λ k. record { what = Slot slot; first = n } ∷ begun k (n + 1) (b.rest ++ ts)) nine
    ∙ ap (λ l. record { what = Slot slot; first = n } ∷ l)
    (all_in_it b.rest ts (n + 1) ∙ ap (λ k. begun 0 k ts) place)
row_begins (of_accent {i = i} {a = v} {t = t} {ts = us} name index own few pairs) a ts n h =
    let b : Begins a (Value (Act name)) (t ∷ us) = begins_with a (Value (Act name)) (t ∷ us) h in
    let o : Begins b.rest t us = begins_with b.rest t us b.others in
    let whole : a ≡ b.front ∷ o.front ∷ o.rest = b.whole ∙ ap (λ ts. b.front ∷ ts) o.whole in
    let place : n + 1 + 1 + length o.rest ≡ n + length a = omega (arith, ap length whole) in
    ap (λ a. begun 0 n (a ++ ts)) whole
    ∙ starts n b.front (o.front ∷ (o.rest ++ ts)) (Accent i) (not_open b.front.kind b.front.bytes (Act name) b.is)
    (accent_begins (item_of b.front) name i b.is index)
    ∙ ap (λ l. record { what = Accent i; first = n } ∷ l)
    (in_it 0 (n + 1) o.front (o.rest ++ ts) ∙ pairs_in_it pairs o.rest ts (n + 1 + 1) o.others
    ∙ ap (λ k. begun 0 k ts) place)

-- The rows of tokens that are a row of definitions.
record Found (ts : List TokenValue) (ds : List Definition) (n : ℕ) : Type 0 where
  rows : List Row
  are_rows : AreRows ts rows
  say : map (λ (r : Row). r.definition) rows ≡ ds
  places : begun 0 n ts ≡ places_after n rows

none_begin : (n : ℕ) → begun 0 n [] ≡ places_after n []
unfolding begun places_after
none_begin n = refl

one_more : (n : ℕ) (r : Row) (rs : List Row)
    → places_after n (r ∷ rs)
    ≡ record { what = defined r.definition; first = n } ∷ places_after (n + length r.tokens) rs
unfolding places_after
one_more n r rs = refl

found : {us : List Item} {ds : List Definition} → IsRow us ds → (ts : List TokenValue) (n : ℕ) → map item_of ts ≡ us
    → Found ts ds n
found no_definition [] n h = record { rows = []; are_rows = no_row; say = refl; places = none_begin n }
found no_definition (t ∷ ts) n h = absurd (cc)
found (one_definition {ts = us} {us = vs} {d = d} {ds = ds} one more) ts n h =
    let p : Parts ts us vs = parts us vs ts h in
    let f : Found p.rest ds (n + length p.front) = found more p.rest (n + length p.front) p.others in
    let r : Row = record { definition = d; tokens = p.front } in
    record {
      rows = r ∷ f.rows;
      are_rows =
          subst (λ (ts : List TokenValue). AreRows ts (r ∷ f.rows)) (sym p.whole)
          (one_row r (subst (λ (us : List Item). Defines us d) (sym p.is) one) f.are_rows);
      say = ap (λ ds. d ∷ ds) f.say;
      places =
          ap (begun 0 n) p.whole ∙ row_begins one p.front p.rest n p.is
          ∙ ap (λ l. record { what = defined d; first = n } ∷ l) f.places ∙ sym (one_more n r f.rows);
    }

-- definitions begin where the rows of their tokens do
pub places_are : {ts : List TokenValue} {rows : List Row} → AreRows ts rows → (n : ℕ)
    → begun 0 n ts ≡ places_after n rows
places_are no_row n = none_begin n
places_are (one_row {ts = ts} {rs = rs} r d more) n =
    grind (arith, one_more, row_begins, (places_are more (n + length r.tokens)))

-- what begins in a text that spells a map are its rows
pub spelled_by : (text : List ℕ) (m : MapValue) → Spells text m
    → (rows : List Row) × IsSpelledBy text m rows × (begun 0 0 (tokens text) ≡ places_of rows)
spelled_by text m s =
    let f : Found (tokens text) s.definitions 0 = found s.row (tokens text) 0 refl in (
      f.rows,
      record { are_rows = f.are_rows; spelled = s.map ∙ ap map_of (sym f.say) },
      f.places,
    )
