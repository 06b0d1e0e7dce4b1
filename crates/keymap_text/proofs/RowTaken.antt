-- The reader's machine accepts each row of definitions, and puts them into the map.
use Rattle.keymap_text.proofs.Common.{◌≡◌, ◌≢◌, ℕ, ◌+◌, ◌<◌, ◌≤◌, cond, List, [], ◌∷◌, ◌++◌}
use Rattle.keymap_text.proofs.Common.{length, take, refl, ◌∙◌, ap, arith, Result, Ok, Err, Option}
use Rattle.keymap_text.proofs.Common.{Some, None, length-append, length-set, append_assoc, append-nil, ne_eqb}
use Rattle.keymap_text.proofs.Common.{eq-eqb, none-some, same_Some, take_more_set, TextFaultKind}
use Rattle.keymap_text.proofs.Common.{Entry, Cell, LockFlag, Item, Open, Close, Value, Number, Act, Letter}
use Rattle.keymap_text.proofs.Common.{AccentValue, MapValue, undefined, with_entry, with_accent, character, cell}
use Rattle.keymap_text.proofs.Common.{GrammarState, GrammarPlace, CellAt, LockAt, AccentCharacter, rules}
use Rattle.keymap_text.proofs.Common.{AfterAccent, PairBase, PairResult, PairEnd, accept, at, at_end}
use Rattle.keymap_text.proofs.Common.{first_of, with_cell, with_pair, after_cell, after_base, ◌>>=◌}
use Rattle.keymap_text.proofs.Common.{AreCells, no_cells, one_cell, ArePairs, no_pairs}
use Rattle.keymap_text.proofs.Common.{one_pair, Defines, of_key, of_accent, IsRow, no_definition, one_definition}
use Rattle.keymap_text.proofs.Common.{lt-ltb}
use Rattle.keymap_text.specs.Inner.Grammar.{Definition}
use Rattle.keymap_text.proofs.Folded.{put, puts}
use Rattle.keymap_text.specs.declared.fault.TextFaultKind.TheVariants as faults
use Rattle.keymap_text.specs.Rows as rows
use Rattle.keymap_text.proofs.Row.{bind_ok, err_ok, ok_is, set_last, steps}

-- each row is accepted
steps_on : (s s' : GrammarState) (t : Item) (ts : List Item) → accept s t ≡ Ok s' → steps s (t ∷ ts) ≡ steps s' ts
steps_on s s' t ts h = ap (λ r. r >>= (λ s. steps s ts)) h

-- the steps of two lists, one after the other
pub steps_append : (s s' : GrammarState) (ts us : List Item) → steps s ts ≡ Ok s' → steps s (ts ++ us) ≡ steps s' us
steps_append s s' [] us h = ap (λ s. steps s us) (ok_is s s' h)
steps_append s s' (t ∷ ts) us h =
    let b = bind_ok (accept s t) (λ s. steps s ts) s' h in
    steps_on s b.0 t (ts ++ us) b.1 ∙ steps_append b.0 s' ts us b.2

-- the first token of a definition, where a text may end
ready : (m : MapValue) (p : GrammarPlace) (m' : MapValue) (t : Item) (q : GrammarPlace) → at_end (at m p) ≡ Some m'
    → first_of t ≡ Ok q → accept (at m p) t ≡ Ok (at m' q)
unfolding at_end accept
ready m p m' t q h k = grind (arith, err_ok, none-some, same_Some)

-- a cell is taken
pub take_cell : (m : MapValue) (slot i : ℕ) (e : Entry) (t : Item) (c : Cell) → cell t ≡ Ok c
    → accept (at m (CellAt slot i e)) t ≡ Ok (at m (after_cell slot i (with_cell e i c)))
unfolding accept
take_cell m slot i e t c h = ap (λ r. r >>= (λ c. Ok (at m (after_cell slot i (with_cell e i c))))) h

-- an entry by its parts
entry_of : List Cell → LockFlag → Entry
entry_of cells flag = record { cells = cells; flag = flag }

-- all cells of an entry are taken
cells_done : (m : MapValue) (slot i : ℕ) (e : Entry) (ts : List Item) (cs : List Cell) (us : List Item) → AreCells ts cs
    → i + length cs ≡ 8 → 0 < length cs → length e.cells ≡ 8
    → steps (at m (CellAt slot i e)) (ts ++ us) ≡ steps (at m (LockAt slot (entry_of (take i e.cells ++ cs) e.flag))) us
unfolding entry_of
cells_done m slot i e ts cs us no_cells n z l = absurd (omega (arith, z))
cells_done m slot i e ts cs us (one_cell {t = t} {c = c} h no_cells) n z l =
    let i7 : i ≡ 7 = omega (arith, n) in
    steps_on _ _ t us (take_cell m slot i e t c h)
    ∙ ap (λ b. steps (at m (cond b (LockAt slot (with_cell e i c)) (CellAt slot (i + 1) (with_cell e i c)))) us)
    (eq-eqb i 7 i7)
    ∙ ap (λ (cells : List Cell). steps (at m (LockAt slot (record { cells = cells; flag = e.flag }))) us)
    (set_last e.cells i c (omega (arith, l, i7)))
cells_done m slot i e ts cs us (one_cell {t = t} {c = c} h (one_cell {t = t'} {c = c'} {ts = ts'} {cs = cs'} k r)) n z
    l =
    let n7 : i ≢ 7 = omega (arith, n) in
    steps_on _ _ t (t' ∷ (ts' ++ us)) (take_cell m slot i e t c h)
    ∙ ap (λ b. steps (at m (cond b (LockAt slot (with_cell e i c)) (CellAt slot (i + 1) (with_cell e i c))))
    (t' ∷ (ts' ++ us))) (ne_eqb i 7 n7)
    ∙ cells_done m slot (i + 1) (with_cell e i c) (t' ∷ ts') (c' ∷ cs') us (one_cell k r) (omega (arith, n))
    (omega arith) (length-set e.cells i c ∙ l)
    ∙ ap (λ (cells : List Cell). steps (at m (LockAt slot (record { cells = cells; flag = e.flag }))) us)
    (ap (λ xs. xs ++ c' ∷ cs') (take_more_set e.cells i c (omega (arith, l, n)))
    ∙ append_assoc (take i e.cells) (c ∷ []) (c' ∷ cs'))

-- a lock letter is taken
lock_taken : (m : MapValue) (slot : ℕ) (e : Entry) (f : LockFlag)
    → steps (at m (LockAt slot e)) (Value (Letter f) ∷ [])
    ≡ Ok (at (with_entry m slot (record { cells = e.cells; flag = f })) Definition)
unfolding accept
lock_taken m slot e f = refl

-- an accent's character is taken
own_taken : (m : MapValue) (i c : ℕ) (t : Item) → character t ≡ Ok c
    → accept (at m (AccentCharacter i)) t ≡ Ok (at m (AfterAccent i (record { own = c; pairs = [] })))
unfolding accept
own_taken m i c t h = ap (λ r. r >>= (λ c. Ok (at m (AfterAccent i (record { own = c; pairs = [] }))))) h

-- a left parenthesis is taken
pub open_taken : (m : MapValue) (i : ℕ) (a : AccentValue) → length a.pairs < 52
    → accept (at m (AfterAccent i a)) Open ≡ Ok (at m (PairBase i a))
unfolding accept
open_taken m i a h = grind arith

-- a base is taken
pub base_taken : (m : MapValue) (i : ℕ) (a : AccentValue) (t : Item) (b : ℕ) → character t ≡ Ok b → b ≢ 0
    → accept (at m (PairBase i a)) t ≡ Ok (at m (PairResult i a b))
unfolding accept
base_taken m i a t b h z =
    ap (λ r. r >>= (λ c. after_base m i a c)) h
    ∙ ap (λ z. cond z (Err faults.ZeroBase) (Ok (at m (PairResult i a b)))) (ne_eqb b 0 z)

-- a result is taken
pub result_taken : (m : MapValue) (i : ℕ) (a : AccentValue) (t : Item) (b r : ℕ) → character t ≡ Ok r
    → accept (at m (PairResult i a b)) t ≡ Ok (at m (PairEnd i a b r))
unfolding accept
result_taken m i a t b r h = ap (λ r. r >>= (λ c. Ok (at m (PairEnd i a b c)))) h

-- a right parenthesis is taken
pub close_taken : (m : MapValue) (i : ℕ) (a : AccentValue) (b r : ℕ)
    → accept (at m (PairEnd i a b r)) Close ≡ Ok (at m (AfterAccent i (with_pair a b r)))
unfolding accept
close_taken m i a b r = refl

-- all pairs of an accent are taken
pairs_done : (m : MapValue) (i : ℕ) (a : AccentValue) (ts : List Item) (ps : List (ℕ × ℕ)) → ArePairs ts ps
    → length a.pairs + length ps ≤ 52 → steps (at m (AfterAccent i a)) ts
    ≡ Ok (at m (AfterAccent i (record { own = a.own; pairs = a.pairs ++ ps })))
pairs_done m i a ts ps no_pairs l = search (rules, append-nil)
pairs_done m i a ts ps (one_pair {t = t} {u = u} {base = b} {result = r} {ts = ts'} {ps = ps'} h z k more) l =
    steps_on _ _ Open (t ∷ u ∷ Close ∷ ts') (open_taken m i a (omega (arith, l)))
    ∙ steps_on _ _ t (u ∷ Close ∷ ts') (base_taken m i a t b h z)
    ∙ steps_on _ _ u (Close ∷ ts') (result_taken m i a u b r k)
    ∙ steps_on _ _ Close ts' (close_taken m i a b r)
    ∙ pairs_done m i (with_pair a b r) ts' ps' more (rw length-append (omega (arith, l)))
    ∙ ap (λ (ps : List (ℕ × ℕ)). Ok (at m (AfterAccent i (record { own = a.own; pairs = ps }))))
    (append_assoc a.pairs ((b, r) ∷ []) ps')

-- the text may end after a lock letter
ends_lock : (m : MapValue) → at_end (at m Definition) ≡ Some m
unfolding at_end
ends_lock m = refl

-- the text may end after an accent's character or pair
ends_accent : (m : MapValue) (i : ℕ) (a : AccentValue) → at_end (at m (AfterAccent i a)) ≡ Some (with_accent m i a)
unfolding at_end
ends_accent m i a = refl

-- the tokens of a definition put it into the map
pub defined : (s : GrammarState) (m : MapValue) (ts : List Item) (d : rows.Definition) → Defines ts d
    → at_end s ≡ Some m
    → (s' : GrammarState) × (steps s ts ≡ Ok s') × (at_end s' ≡ Some (put m d))
unfolding entry_of
defined s m ts d (of_key {slot = slot} {e = e} {ts = cs} fits l cells) h = (
  at (with_entry m slot e) Definition,
  steps_on s _ _ _ (ready s.map s.place m (Value (Number slot)) (CellAt slot 0 undefined) h
      (ap (λ b. cond b (Ok (CellAt slot 0 undefined)) (Err faults.KeyTooLarge)) (lt-ltb slot 256 fits)))
      ∙ cells_done m slot 0 undefined cs e.cells (Value (Letter e.flag) ∷ []) cells (omega (arith, l))
      (omega (arith, l)) refl
      ∙ lock_taken m slot _ e.flag,
  ends_lock _,
)
defined s m ts d (of_accent {i = i} {a = a} {t = t} {ts = us} name idx own le pairs) h = (
  at m (AfterAccent i a),
  steps_on s _ _ (t ∷ us) (ready s.map s.place m (Value (Act name)) (AccentCharacter i) h
      (ap (λ (o : Option ℕ). elim o as (λ o. Result GrammarPlace TextFaultKind)
      [ Some i ↦ Ok (AccentCharacter i) | None ↦ Err faults.Unexpected ]) idx))
      ∙ steps_on _ _ t us (own_taken m i a.own t own)
      ∙ pairs_done m i (record { own = a.own; pairs = [] }) us a.pairs pairs (omega (arith, le)),
  ends_accent m i a,
)

-- the tokens of a row put its definitions into the map
pub row_defined : (s : GrammarState) (m : MapValue) (ts : List Item) (ds : List rows.Definition) → IsRow ts ds
    → at_end s ≡ Some m → (s' : GrammarState) × (steps s ts ≡ Ok s') × (at_end s' ≡ Some (puts m ds))
row_defined s m ts ds no_definition h = (s, refl, h)
row_defined s m ts ds (one_definition {ts = front} {us = rest} {d = d} {ds = more} k r) h =
    let one = defined s m front d k h in
    let all = row_defined one.0 (put m d) rest more r one.2 in
    (all.0, steps_append s one.0 front rest one.1 ∙ all.1, all.2)
