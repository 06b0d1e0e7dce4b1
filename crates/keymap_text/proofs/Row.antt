-- The reader's machine accepts no other tokens than those of rows of definitions.
use Rattle.keymap_text.proofs.Common.{◌≡◌, ◌≢◌, ℕ, ◌+◌, ◌<◌, ◌==◌, Bool, true, false, cond, List, [], ◌∷◌, ◌++◌}
use Rattle.keymap_text.proofs.Common.{length, take, set, refl, sym, ◌∙◌, ap, subst, arith, Result, Ok, Err}
use Rattle.keymap_text.proofs.Common.{Some, length-append, length-set, append_assoc, append-nil, nat_lt, ne_eqb}
use Rattle.keymap_text.proofs.Common.{eq-eqb, true≢false, take_all, none-some, same_Some, take_more_set, TextFaultKind}
use Rattle.keymap_text.proofs.Common.{Entry, Cell, LockFlag, Action, Item, Open, Close, Value, Number, Act, Letter}
use Rattle.keymap_text.proofs.Common.{AccentValue, MapValue, undefined, with_entry, with_accent, character, cell, lock}
use Rattle.keymap_text.proofs.Common.{accent_index, GrammarState, GrammarPlace, CellAt, LockAt, AccentCharacter, rules}
use Rattle.keymap_text.proofs.Common.{AfterAccent, PairBase, PairResult, PairEnd, accept, at, at_end, start, step}
use Rattle.keymap_text.proofs.Common.{first_of, empty_map, with_cell, with_pair, after_cell, ◌>>=◌}
use Rattle.keymap_text.proofs.Common.{KeyDefinition, AccentDefinition, AreCells, no_cells, one_cell, ArePairs, no_pairs}
use Rattle.keymap_text.proofs.Common.{one_pair, Defines, of_key, of_accent, IsRow, no_definition, one_definition}
use Rattle.keymap_text.proofs.Common.{ltb-true, cases_eq, inl, inr}
use Rattle.keymap_text.specs.Inner.Grammar.{Definition}
use Rattle.keymap_text.proofs.Folded.{put, puts, puts_push}
use Rattle.keymap_text.specs.declared.fault.TextFaultKind.TheVariants as faults
use Rattle.keymap_text.specs.Rows as rows
use Rattle.keymap_core.specs.declared.action.Action.TheVariants.{DeadKey}

-- a fault is no answer
pub err_ok : {A : Type 0} (e : TextFaultKind) (y : A) → ◌≡◌ {A = Result A TextFaultKind} (Err e) (Ok y) → ⊥
err_ok e y h = cc

-- an answer of two steps is one of the first
pub bind_ok : {A B : Type 0} (r : Result A TextFaultKind) (f : A → Result B TextFaultKind) (y : B) → (r >>= f) ≡ Ok y
    → (x : A) × (r ≡ Ok x) × (f x ≡ Ok y)
bind_ok r f y h = grind (arith, err_ok)

-- equal answers
pub ok_is : {A : Type 0} (x y : A) → ◌≡◌ {A = Result A TextFaultKind} (Ok x) (Ok y) → x ≡ y
ok_is x y h = cc

-- a test that passed, and one that failed
test_passed : {A : Type 0} (b : Bool) (x y : A) (f : TextFaultKind)
    → ◌≡◌ {A = Result A TextFaultKind} (cond b (Ok x) (Err f)) (Ok y) → (b ≡ true) × (x ≡ y)
test_passed b x y f h = grind (arith, err_ok, ok_is)

test_failed : {A : Type 0} (b : Bool) (x y : A) (f : TextFaultKind)
    → ◌≡◌ {A = Result A TextFaultKind} (cond b (Err f) (Ok x)) (Ok y) → (b ≡ false) × (x ≡ y)
test_failed b x y f h = grind (arith, err_ok, ok_is)

-- numbers that differ
differ : (a b : ℕ) → (a == b) ≡ false → a ≢ b
differ a b h e = true≢false (sym (eq-eqb a b e) ∙ h)

-- the token of a cell behind those of cells
cells_push : {ts : List Item} {cs : List Cell} (t : Item) (c : Cell) → AreCells ts cs → cell t ≡ Ok c
    → AreCells (ts ++ t ∷ []) (cs ++ c ∷ [])
cells_push t c no_cells h = one_cell h no_cells
cells_push t c (one_cell k r) h = one_cell k (cells_push t c r h)

-- the tokens of a pair behind those of pairs
pairs_push : {ts : List Item} {ps : List (ℕ × ℕ)} (t u : Item) (b r : ℕ) → ArePairs ts ps → character t ≡ Ok b → b ≢ 0
    → character u ≡ Ok r → ArePairs (ts ++ Open ∷ t ∷ u ∷ Close ∷ []) (ps ++ (b, r) ∷ [])
pairs_push t u b r no_pairs h z k = one_pair h z k no_pairs
pairs_push t u b r (one_pair f g e more) h z k = one_pair f g e (pairs_push t u b r more h z k)

-- the tokens of a definition behind a row
row_push : {ts us : List Item} {ds : List rows.Definition} {d : rows.Definition} → IsRow ts ds → Defines us d
    → IsRow (ts ++ us) (ds ++ d ∷ [])
row_push {us = us} {d = d} no_definition h =
    subst (λ (us : List Item). IsRow us (d ∷ [])) (append-nil us) (one_definition h no_definition)
row_push {us = vs} {d = last} (one_definition {ts = ts} {us = us} {d = d} {ds = ds} k r) h =
    subst (λ (ts : List Item). IsRow ts (d ∷ (ds ++ last ∷ []))) (sym (append_assoc ts us vs))
    (one_definition k (row_push r h))

-- the tokens of the definition that a place is in
abbrev pub Part : List Item → GrammarPlace → Type 0
Part ts Definition = ts ≡ []
Part ts (CellAt slot i e) =
    (cs : List Item) × (ts ≡ Value (Number slot) ∷ cs) × (slot < 256) × (i < 8) × (length e.cells ≡ 8)
    × AreCells cs (take i e.cells)
Part ts (LockAt slot e) =
    (cs : List Item) × (ts ≡ Value (Number slot) ∷ cs) × (slot < 256) × (length e.cells ≡ 8) × AreCells cs e.cells
Part ts (AccentCharacter i) = (name : Action) × (ts ≡ Value (Act name) ∷ []) × (accent_index name ≡ Some i)
Part ts (AfterAccent i a) = Defines ts (AccentDefinition i a)
Part ts (PairBase i a) =
    (us : List Item) × (ts ≡ us ++ Open ∷ []) × Defines us (AccentDefinition i a) × (length a.pairs < 52)
Part ts (PairResult i a b) =
    (us : List Item) × (t : Item) × (ts ≡ us ++ Open ∷ t ∷ []) × Defines us (AccentDefinition i a)
    × (length a.pairs < 52) × (character t ≡ Ok b) × (b ≢ 0)
Part ts (PairEnd i a b r) =
    (us : List Item) × (t : Item) × (u : Item) × (ts ≡ us ++ Open ∷ t ∷ u ∷ []) × Defines us (AccentDefinition i a)
    × (length a.pairs < 52) × (character t ≡ Ok b) × (b ≢ 0) × (character u ≡ Ok r)

-- what a token does: it goes on with a definition, ends one, or begins one behind an accent
data Moves (part : List Item) (m : MapValue) (t : Item) (s : GrammarState) : Type 0 where
  On : s.map ≡ m → Part (part ++ t ∷ []) s.place → Moves part m t s
  Done : (d : rows.Definition) → Defines (part ++ t ∷ []) d → s ≡ at (put m d) Definition → Moves part m t s
  Begins : (d : rows.Definition) → Defines part d → s.map ≡ put m d → Part (t ∷ []) s.place → Moves part m t s

-- the first token of a definition
begins : (t : Item) (p : GrammarPlace) → first_of t ≡ Ok p → Part (t ∷ []) p
begins (Value (Number n)) p h =
    let k = test_passed (nat_lt n 256) (CellAt n 0 undefined) p faults.KeyTooLarge h in
    subst (Part (Value (Number n) ∷ [])) k.1 ([], refl, ltb-true n 256 k.0, omega arith, refl, no_cells)
begins (Value (Act (DeadKey i))) p h =
    subst (Part (Value (Act (DeadKey i)) ∷ [])) (ok_is _ _ h) (DeadKey i, refl, refl)
begins _ p h = absurd (err_ok _ _ h)

-- a lock letter
lock_is : (t : Item) (f : LockFlag) → lock t ≡ Ok f → t ≡ Value (Letter f)
lock_is t f h = grind (arith, err_ok, ok_is)

-- the whole list where the last element was set
pub set_last : {X : Type 0} (xs : List X) (i : ℕ) (x : X) → length xs ≡ i + 1 → set xs i x ≡ take i xs ++ x ∷ []
set_last xs i x h =
    sym (take_all (i + 1) (set xs i x) (rw length-set (omega (arith, h)))) ∙ take_more_set xs i x (omega (arith, h))

-- the token of a cell leads from its place to the next one
cell_part : (ts : List Item) (t : Item) (slot i : ℕ) (e : Entry) (c : Cell) → Part ts (CellAt slot i e) → cell t ≡ Ok c
    → Part (ts ++ t ∷ []) (after_cell slot i (with_cell e i c))
cell_part ts t slot i e c (cs, is, fits, lt, l, cells) h =
    let whole = ap (λ ts. ts ++ t ∷ []) is in
    let long = length-set e.cells i c ∙ l in
    let more = cells_push t c cells h in
    elim (cases_eq i 7) [
      | inl k ↦ rw (eq-eqb i 7 k)
          (cs ++ t ∷ [], whole, fits, long, rw (set_last e.cells i c (omega (arith, l, k))) more)
      | inr k ↦ rw (ne_eqb i 7 k) (
        cs ++ t ∷ [],
        whole,
        fits,
        omega (arith, lt, k),
        long,
        rw (take_more_set e.cells i c (omega (arith, l, lt))) more,
      )
    ]

-- a pair ends
pair_done : (us : List Item) (t u : Item) (i : ℕ) (a : AccentValue) (b r : ℕ) → Defines us (AccentDefinition i a)
    → length a.pairs < 52 → character t ≡ Ok b → b ≢ 0 → character u ≡ Ok r
    → Defines (us ++ Open ∷ t ∷ u ∷ Close ∷ []) (AccentDefinition i (with_pair a b r))
pair_done us t u i a b r (of_accent name idx own le ps) l h z k =
    of_accent name idx own (rw length-append (omega (arith, l))) (pairs_push t u b r ps h z k)

-- a step inside a definition
on : (part : List Item) (m : MapValue) (t : Item) (p : GrammarPlace) (s : GrammarState)
    → ◌≡◌ {A = Result GrammarState TextFaultKind} (Ok (at m p)) (Ok s) → Part (part ++ t ∷ []) p → Moves part m t s
on part m t p s h k = search (rules, ok_is)

-- a definition ends where another begins
begin_behind : (part : List Item) (m : MapValue) (i : ℕ) (a : AccentValue) (t : Item) (s : GrammarState)
    → (first_of t >>= (λ p. Ok (at (with_accent m i a) p))) ≡ Ok s → Defines part (AccentDefinition i a)
    → Moves part m t s
begin_behind part m i a t s h d =
    let b = bind_ok (first_of t) (λ p. Ok (at (with_accent m i a) p)) s h in
    Begins (AccentDefinition i a) d (sym (ap (λ s. s.map) (ok_is _ _ b.2)))
    (subst (λ (s : GrammarState). Part (t ∷ []) s.place) (ok_is _ _ b.2) (begins t b.0 b.1))

-- each step
moves : (part : List Item) (m : MapValue) (p : GrammarPlace) (t : Item) (s : GrammarState) → step m p t ≡ Ok s
    → Part part p
    → Moves part m t s
moves part m Definition t s h k =
    let b = bind_ok (first_of t) (λ p. Ok (at m p)) s h in
    on part m t b.0 s b.2 (subst (λ (ts : List Item). Part (ts ++ t ∷ []) b.0) (sym k) (begins t b.0 b.1))
moves part m (CellAt slot i e) t s h k =
    let b = bind_ok (cell t) (λ c. Ok (at m (after_cell slot i (with_cell e i c)))) s h in
    on part m t _ s b.2 (cell_part part t slot i e b.0 k b.1)
moves part m (LockAt slot e) t s h (cs, is, fits, l, cells) =
    let b = bind_ok (lock t) (λ f. Ok (at (with_entry m slot (record { cells = e.cells; flag = f })) Definition)) s h in
    Done (KeyDefinition slot (record { cells = e.cells; flag = b.0 }))
    (subst (λ (ts : List Item). Defines ts (KeyDefinition slot (record { cells = e.cells; flag = b.0 })))
    (sym (ap (λ ts. ts ++ t ∷ []) is ∙ ap (λ t. Value (Number slot) ∷ (cs ++ t ∷ [])) (lock_is t b.0 b.1)))
    (of_key fits l cells))
    (sym (ok_is _ _ b.2))
moves part m (AccentCharacter i) t s h (name, is, idx) =
    let b = bind_ok (character t) (λ c. Ok (at m (AfterAccent i (record { own = c; pairs = [] })))) s h in
    on part m t _ s b.2 (subst (λ (ts : List Item). Defines (ts ++ t ∷ [])
    (AccentDefinition i (record { own = b.0; pairs = [] }))) (sym is)
    (of_accent name idx b.1 (omega arith) no_pairs))
moves part m (AfterAccent i a) Open s h k = search (rules, test_passed, on, ltb-true)
moves part m (AfterAccent i a) Close s h k = begin_behind part m i a Close s h k
moves part m (AfterAccent i a) (Value v) s h k = begin_behind part m i a (Value v) s h k
moves part m (PairBase i a) t s h (us, is, d, l) =
    search (rules, bind_ok, test_failed, append_assoc, on, differ)
moves part m (PairResult i a b) t s h (us, u, is, d, l, e, z) =
    search (rules, bind_ok, append_assoc, on)
moves part m (PairEnd i a b r) Open s h k = absurd (err_ok _ _ h)
moves part m (PairEnd i a b r) Close s h (us, t, u, is, d, l, e, z, f) =
    search (rules, on, append_assoc, pair_done)
moves part m (PairEnd i a b r) (Value v) s h k = absurd (err_ok _ _ h)

-- The tokens so far are a row of definitions, and a part of the next one.
pub record Stands (ts : List Item) (s : GrammarState) : Type 0 where
  pub definitions : List rows.Definition
  pub row : List Item
  pub rest : List Item
  pub tokens : ts ≡ row ++ rest
  pub is_row : IsRow row definitions
  pub map : s.map ≡ puts empty_map definitions
  pub part : Part rest s.place

-- each step of a row
moved : (ts : List Item) (t : Item) (s s' : GrammarState) → (k : Stands ts s) → Moves k.rest s.map t s'
    → Stands (ts ++ t ∷ []) s'
moved ts t s s' k (On same part) = record {
  definitions = k.definitions;
  row = k.row;
  rest = k.rest ++ t ∷ [];
  tokens = ap (λ ts. ts ++ t ∷ []) k.tokens ∙ append_assoc k.row k.rest (t ∷ []);
  is_row = k.is_row;
  map = same ∙ k.map;
  part = part;
}
moved ts t s s' k (Done d def is) = record {
  definitions = k.definitions ++ d ∷ [];
  row = k.row ++ (k.rest ++ t ∷ []);
  rest = [];
  tokens = ap (λ ts. ts ++ t ∷ []) k.tokens ∙ append_assoc k.row k.rest (t ∷ []) ∙ sym (append-nil _);
  is_row = row_push k.is_row def;
  map = ap (λ s. s.map) is ∙ ap (λ m. put m d) k.map ∙ sym (puts_push empty_map k.definitions d);
  part = subst (λ (s : GrammarState). Part [] s.place) (sym is) refl;
}
moved ts t s s' k (Begins d def same part) = record {
  definitions = k.definitions ++ d ∷ [];
  row = k.row ++ k.rest;
  rest = t ∷ [];
  tokens = ap (λ ts. ts ++ t ∷ []) k.tokens;
  is_row = row_push k.is_row def;
  map = same ∙ ap (λ m. put m d) k.map ∙ sym (puts_push empty_map k.definitions d);
  part = part;
}

-- a step by its place
accept_is : (s : GrammarState) (t : Item) → accept s t ≡ step s.map s.place t
unfolding accept
accept_is s t = refl

-- the machine over a list of tokens
abbrev pub steps : GrammarState → List Item → Result GrammarState TextFaultKind
steps s [] = Ok s
steps s (t ∷ ts) = accept s t >>= (λ s. steps s ts)

-- tokens that are accepted lead on in a row
pub stands_after : (ts us : List Item) (s s' : GrammarState) → Stands ts s → steps s us ≡ Ok s' → Stands (ts ++ us) s'
stands_after ts [] s s' k h =
    subst (λ (ts : List Item). Stands ts s') (sym (append-nil ts)) (subst (Stands ts) (ok_is s s' h) k)
stands_after ts (u ∷ us) s s' k h =
    let b = bind_ok (accept s u) (λ s. steps s us) s' h in
    subst (λ (ts : List Item). Stands ts s') (append_assoc ts (u ∷ []) us)
    (stands_after (ts ++ u ∷ []) us b.0 s' (moved ts u s b.0 k (moves k.rest s.map s.place u b.0
    (sym (accept_is s u) ∙ b.1) k.part)) b.2)

-- a text begins in no definition
pub stands_first : Stands [] start
stands_first =
    record { definitions = []; row = []; rest = []; tokens = refl; is_row = no_definition; map = refl; part = refl }

-- where the text may end, the tokens are a row
pub row_at_end : (ts : List Item) (m : MapValue) (p : GrammarPlace) (m' : MapValue) → Stands ts (at m p)
    → at_end (at m p) ≡ Some m' → (ds : List rows.Definition) × IsRow ts ds × (m' ≡ puts empty_map ds)
unfolding at_end
row_at_end ts m p m' k h = grind (arith, append-nil, none-some, puts_push, row_push, same_Some)
