-- Which tokens of a definition are its parts.
use Rattle.keymap_places.proofs.Common.{rules, ◌≡◌, ℕ, zero, suc, ◌+◌, ◌*◌, ◌<◌, List, [], ◌∷◌, ◌++◌, length, take}
use Rattle.keymap_places.proofs.Common.{drop}
use Rattle.keymap_places.proofs.Common.{get_or, refl, ap, subst, arith, Ok, add-one, length-append, Cell, Entry, Letter}
use Rattle.keymap_places.proofs.Common.{Item, Open, Close, Value, AccentValue, character, cell, KeyDefinition}
use Rattle.keymap_places.proofs.Common.{AccentDefinition, AreCells, no_cells, one_cell, ArePairs, no_pairs, one_pair}
use Rattle.keymap_places.proofs.Common.{Defines, of_key, of_accent}

-- as many tokens as cells
pub count_cells : {ts : List Item} {cs : List Cell} → AreCells ts cs → length ts ≡ length cs
count_cells no_cells = refl
count_cells (one_cell h r) = ap suc (count_cells r)

-- the token of a cell
in_cells : {ts : List Item} {cs : List Cell} → AreCells ts cs → (rest : List Item) (i : ℕ) → i < length cs
    → (t : Item) (c : Cell) → cell (get_or (ts ++ rest) i t) ≡ Ok (get_or cs i c)
in_cells no_cells rest i l t c = absurd (omega (arith, l))
in_cells (one_cell h r) rest zero l t c = h
in_cells (one_cell h r) rest (suc i) l t c = in_cells r rest i (omega (arith, l)) t c

-- the token behind the cells
behind_cells : {ts : List Item} {cs : List Cell} → AreCells ts cs → (u : Item) (rest : List Item) (t : Item)
    → get_or (ts ++ u ∷ rest) (length cs) t ≡ u
behind_cells no_cells u rest t = refl
behind_cells (one_cell h r) u rest t = behind_cells r u rest t

-- four tokens a pair
count_pairs : {ts : List Item} {ps : List (ℕ × ℕ)} → ArePairs ts ps → length ts ≡ 4 * length ps
count_pairs no_pairs = refl
count_pairs (one_pair {ts = ts} {ps = ps} h z k r) = grind (arith, (count_pairs r))

-- the tokens of a pair
in_pairs : {ts : List Item} {ps : List (ℕ × ℕ)} → ArePairs ts ps → (j : ℕ) → j < length ps → (p : ℕ × ℕ)
    → ArePairs (take 4 (drop (4 * j) ts)) (get_or ps j p ∷ [])
in_pairs no_pairs j l p = absurd (omega (arith, l))
in_pairs (one_pair h z k r) zero l p = one_pair h z k no_pairs
in_pairs (one_pair {t = t} {u = u} {ts = ts} {ps = ps} h z k r) (suc j) l p =
    let e : suc (suc (suc (suc (4 * j)))) ≡ 4 * suc j = omega arith in
    subst (λ (n : ℕ). ArePairs (take 4 (drop n (Open ∷ t ∷ u ∷ Close ∷ ts))) (get_or ps j p ∷ [])) e
    (in_pairs r j (omega (arith, l)) p)

pub slot_tokens : (ts : List Item) (slot : ℕ) (e : Entry) → Defines ts (KeyDefinition slot e) → length ts ≡ 10
slot_tokens _ slot e (of_key {ts = ts} l eight cells) = grind (arith, count_cells, length-append)

pub cell_at : (ts : List Item) (slot : ℕ) (e : Entry) → Defines ts (KeyDefinition slot e) → (column : ℕ) → column < 8
    → (t : Item) (c : Cell) → cell (get_or ts (column + 1) t) ≡ Ok (get_or e.cells column c)
cell_at _ slot e (of_key {ts = ts} l eight cells) column k t c = search (rules, add-one, in_cells)

pub lock_at : (ts : List Item) (slot : ℕ) (e : Entry) → Defines ts (KeyDefinition slot e) → (t : Item)
    → get_or ts 9 t ≡ Value (Letter e.flag)
lock_at _ slot e (of_key {ts = ts} l eight cells) t = grind (arith, behind_cells)

pub accent_tokens : (ts : List Item) (i : ℕ) (a : AccentValue) → Defines ts (AccentDefinition i a)
    → length ts ≡ 4 * length a.pairs + 2
accent_tokens _ i a (of_accent name index own few pairs) = omega (arith, count_pairs pairs)

pub own_at : (ts : List Item) (i : ℕ) (a : AccentValue) → Defines ts (AccentDefinition i a) → (t : Item)
    → character (get_or ts 1 t) ≡ Ok a.own
own_at _ i a (of_accent name index own few pairs) t = own

pub pair_at : (ts : List Item) (i : ℕ) (a : AccentValue) → Defines ts (AccentDefinition i a) → (j : ℕ)
    → j < length a.pairs → (p : ℕ × ℕ) → ArePairs (take 4 (drop (4 * j + 2) ts)) (get_or a.pairs j p ∷ [])
pair_at _ i a (of_accent {t = t} {ts = ts} name index own few pairs) j l p = grind (arith, in_pairs)
