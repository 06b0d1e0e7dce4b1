-- Tokens that mean the same, place for place, define the same.
use Rattle.keymap_fmt.proofs.Common.{◌≡◌, ℕ, zero, suc, ◌+◌, List, [], ◌∷◌, ◌++◌, length, refl, sym, ◌∙◌}
use Rattle.keymap_fmt.proofs.Common.{ap, subst, arith, inl, inr, append_assoc}
use Rattle.std.proofs.Common.{Ok, Err}
use Rattle.std.specs.Prelude.{⊤}
use Rattle.keymap_core.specs.declared.entry.Cell.{Cell}
use Rattle.keymap_core.specs.declared.entry.Cell.TheVariants as cells
use Rattle.keymap_text.specs.Items.{character, cell}
use Rattle.keymap_text.specs.Rows.{AreCells, no_cells, one_cell, ArePairs, no_pairs, one_pair, Definition, Defines}
use Rattle.keymap_text.specs.Rows.{of_key, of_accent, IsRow, no_definition, one_definition}
use Rattle.keymap_text.specs.declared.words.Item.{Item}
use Rattle.keymap_text.specs.declared.words.Item.TheVariants.{Open, Close, Value}
use Rattle.keymap_text.specs.declared.words.Meaning.TheVariants.{Number, Act, Letter}
use Rattle.keymap_text.specs.declared.fault.TextFaultKind.{TextFaultKind}
use Rattle.keymap_text.specs.declared.fault.TextFaultKind.TheVariants as faults
use Rattle.keymap_fmt.specs.Quoted.{left_after, IsSameItem, AreSameItems}

-- Each token means the same as the one in its place, and is that one where a definition or a pair begins.
abbrev pub AreSame : ℕ → List Item → List Item → Type 0
AreSame left [] [] = ⊤
AreSame zero (i ∷ is) (j ∷ js) = (i ≡ j) × AreSame (left_after 0 i) is js
AreSame (suc left) (i ∷ is) (j ∷ js) = IsSameItem i j × AreSame left is js
AreSame left is js = ⊥

pub all_same : (left : ℕ) (is js : List Item) → AreSame left is js → AreSameItems is js
all_same left [] [] h = tt
all_same zero (i ∷ is) (j ∷ js) h = (inl h.0, all_same (left_after 0 i) is js h.1)
all_same (suc left) (i ∷ is) (j ∷ js) h = (h.0, all_same left is js h.1)
all_same left is js h = absurd h

-- a character is a cell
char_cell : (i : Item) (c : ℕ) → character i ≡ Ok c → cell i ≡ Ok (cells.Char c)
char_cell i c h = grind arith

-- what means the same is the same character, the same cell, and one where it is no character
same_character : (i j : Item) (c : ℕ) → IsSameItem i j → character i ≡ Ok c → character j ≡ Ok c
same_character i j c (inl e) h = sym (ap character e) ∙ h
same_character i j c (inr (d, p, q)) h = q ∙ sym p ∙ h

same_cell : (i j : Item) (c : Cell) → IsSameItem i j → cell i ≡ Ok c → cell j ≡ Ok c
same_cell i j c (inl e) h = sym (ap cell e) ∙ h
same_cell i j c (inr (d, p, q)) h = char_cell j d q ∙ sym (char_cell i d p) ∙ h

same_other : (i j : Item) (f : TextFaultKind) → IsSameItem i j → character i ≡ Err f → j ≡ i
same_other i j f (inl e) h = sym e
same_other i j f (inr (d, p, q)) h = absurd (no_both (sym p ∙ h))
  where
    no_both : Ok d ≡ Err f → ⊥
    no_both e = cc

-- The first of these tokens, and the others.
record Next (left : ℕ) (P : Item → Type 0) (is js : List Item) : Type 0 where
  pub first : Item
  pub rest : List Item
  pub cut : js ≡ first ∷ rest
  pub holds : P first
  pub same : AreSame left is rest

begun : (i : Item) (is js : List Item) → AreSame 0 (i ∷ is) js → Next (left_after 0 i) (λ j. i ≡ j) is js
begun i is [] h = absurd h
begun i is (j ∷ js) h = record { first = j; rest = js; cut = refl; holds = h.0; same = h.1 }

within : (left : ℕ) (i : Item) (is js : List Item) → AreSame (suc left) (i ∷ is) js
    → Next left (λ j. IsSameItem i j) is js
within left i is [] h = absurd h
within left i is (j ∷ js) h = record { first = j; rest = js; cut = refl; holds = h.0; same = h.1 }

-- Tokens in front of which P holds, and others, which mean the same as these.
record Parted (left : ℕ) (P : List Item → Type 0) (us js : List Item) : Type 0 where
  pub front : List Item
  pub rest : List Item
  pub cut : js ≡ front ++ rest
  pub holds : P front
  pub same : AreSame left us rest

-- so many tokens, and those of cells before them
behind_cells : List Cell → ℕ → ℕ
behind_cells [] left = left
behind_cells (c ∷ cs) left = suc (behind_cells cs left)

nine : (cs : List Cell) (left : ℕ) → behind_cells cs left ≡ length cs + left
unfolding behind_cells
nine [] left = omega arith
nine (c ∷ cs) left = omega (arith, nine cs left)

cells_same : (left : ℕ) (ts : List Item) (cs : List Cell) (us js : List Item) → AreCells ts cs
    → AreSame (behind_cells cs left) (ts ++ us) js → Parted left (λ vs. AreCells vs cs) us js
unfolding behind_cells
cells_same left [] [] us js no_cells h =
    record { front = []; rest = js; cut = refl; holds = no_cells; same = h }
cells_same left [] (c ∷ cs) us js x h = elim x [ ]
cells_same left (t ∷ ts) [] us js x h = elim x [ ]
cells_same left (t ∷ ts) (c ∷ cs) us js (one_cell e more) h =
    let n = within (behind_cells cs left) t (ts ++ us) js h in
    let r = cells_same left ts cs us n.rest more n.same in
    record {
      front = n.first ∷ r.front;
      rest = r.rest;
      cut = n.cut ∙ ap (λ (xs : List Item). n.first ∷ xs) r.cut;
      holds = one_cell (same_cell t n.first c n.holds e) r.holds;
      same = r.same;
    }

pairs_same : (ts : List Item) (ps : List (ℕ × ℕ)) (us js : List Item) → ArePairs ts ps → AreSame 0 (ts ++ us) js
    → Parted 0 (λ vs. ArePairs vs ps) us js
pairs_same [] [] us js no_pairs h = record { front = []; rest = js; cut = refl; holds = no_pairs; same = h }
pairs_same ts ps us js (one_pair {t = t} {u = u} {base = base} {result = result} {ts = more} {ps = others} e z f pairs)
    h =
    let o = begun Open (t ∷ u ∷ Close ∷ (more ++ us)) js h in
    let a = within 2 t (u ∷ Close ∷ (more ++ us)) o.rest o.same in
    let b = within 1 u (Close ∷ (more ++ us)) a.rest a.same in
    let c = within 0 Close (more ++ us) b.rest b.same in
    let r = pairs_same more others us c.rest pairs c.same in
    let close : c.first ≡ Close = same_other Close c.first faults.Unexpected c.holds refl in
    record {
      front = Open ∷ a.first ∷ b.first ∷ Close ∷ r.front;
      rest = r.rest;
      cut = o.cut ∙ ap (λ (x : Item). x ∷ o.rest) (sym o.holds)
          ∙ ap (λ (xs : List Item). Open ∷ xs) (a.cut ∙ ap (λ (xs : List Item). a.first ∷ xs)
          (b.cut ∙ ap (λ (xs : List Item). b.first ∷ xs) (c.cut ∙ ap (λ (x : Item). x ∷ c.rest) close
          ∙ ap (λ (xs : List Item). Close ∷ xs) r.cut)));
      holds = one_pair (same_character t a.first base a.holds e) z (same_character u b.first result b.holds f) r.holds;
      same = r.same;
    }

definition_same : (ts : List Item) (d : Definition) (us js : List Item) → Defines ts d → AreSame 0 (ts ++ us) js
    → Parted 0 (λ vs. Defines vs d) us js
definition_same ts d us js (of_key {slot = slot} {e = e} {ts = cs} l n are) h =
    let lock = Value (Letter e.flag) in
    let o = begun (Value (Number slot)) ((cs ++ lock ∷ []) ++ us) js h in
    let count : 9 ≡ behind_cells e.cells 1 = omega (arith, nine e.cells 1, n) in
    let c = cells_same 1 cs e.cells (lock ∷ us) o.rest are (subst (λ k. AreSame k (cs ++ lock ∷ us) o.rest) count
    (subst (λ is. AreSame 9 is o.rest) (append_assoc cs (lock ∷ []) us) o.same)) in
    let k = within 0 lock us c.rest c.same in
    let last : k.first ≡ lock = same_other lock k.first faults.Unexpected k.holds refl in
    record {
      front = Value (Number slot) ∷ (c.front ++ lock ∷ []);
      rest = k.rest;
      cut = o.cut ∙ ap (λ (x : Item). x ∷ o.rest) (sym o.holds)
          ∙ ap (λ (xs : List Item). Value (Number slot) ∷ xs) (c.cut ∙ ap (λ (xs : List Item). c.front ++ xs)
          (k.cut ∙ ap (λ (x : Item). x ∷ k.rest) last) ∙ sym (append_assoc c.front (lock ∷ []) k.rest));
      holds = of_key l n c.holds;
      same = k.same;
    }
definition_same ts d us js (of_accent {i = i} {a = a} {t = t} {ts = ps} name index own few pairs) h =
    let o = begun (Value (Act name)) (t ∷ (ps ++ us)) js h in
    let k = within 0 t (ps ++ us) o.rest o.same in
    let r = pairs_same ps a.pairs us k.rest pairs k.same in
    record {
      front = Value (Act name) ∷ k.first ∷ r.front;
      rest = r.rest;
      cut = o.cut ∙ ap (λ (x : Item). x ∷ o.rest) (sym o.holds)
          ∙ ap (λ (xs : List Item). Value (Act name) ∷ xs) (k.cut ∙ ap (λ (xs : List Item). k.first ∷ xs) r.cut);
      holds = of_accent name index (same_character t k.first a.own k.holds own) few r.holds;
      same = r.same;
    }

pub row_same : (is : List Item) (ds : List Definition) (js : List Item) → IsRow is ds → AreSame 0 is js → IsRow js ds
row_same [] [] [] no_definition h = no_definition
row_same [] [] (j ∷ js) no_definition h = absurd h
row_same is ds js (one_definition {ts = ts} {us = us} {d = d} {ds = es} one more) h =
    let r = definition_same ts d us js one h in
    subst (λ xs. IsRow xs (d ∷ es)) (sym r.cut) (one_definition r.holds (row_same us es r.rest more r.same))
