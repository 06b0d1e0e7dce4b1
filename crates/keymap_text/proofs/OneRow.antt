-- Tokens are the rows of one list at most.
use Rattle.keymap_text.proofs.Common.{◌≡◌, ℕ, List, [], ◌∷◌, ◌++◌, length, refl, sym, arith}
use Rattle.keymap_text.proofs.Common.{Cell, Item, Definition, AreCells, no_cells}
use Rattle.keymap_text.proofs.Common.{one_cell, ArePairs, no_pairs, one_pair, Defines}
use Rattle.keymap_text.proofs.Leading.{same_head, same_tail}
use Rattle.keymap_text.proofs.Row.{ok_is}

empty_more : {A : Type 0} (x : A) (xs : List A) → [] ≡ x ∷ xs → ⊥
empty_more x xs h = cc

-- equal tokens that begin with equally many cells have the same cells, and the same tokens behind them
cells_are : {ts us : List Item} {cs ds : List Cell} → AreCells ts cs → AreCells us ds → length cs ≡ length ds
    → (vs ws : List Item) → ts ++ vs ≡ us ++ ws → (cs ≡ ds) × (vs ≡ ws)
cells_are no_cells no_cells n vs ws e = (refl, e)
cells_are no_cells (one_cell h r) n vs ws e = absurd (omega (arith, n))
cells_are (one_cell h r) no_cells n vs ws e = absurd (omega (arith, n))
cells_are (one_cell {t = t} {c = c} {ts = ts} h r) (one_cell {t = u} {c = d} {ts = us} k s) n vs ws e =
    let rest = same_tail t u (ts ++ vs) (us ++ ws) e in
    grind (arith, ok_is, same_head, (cells_are r s (omega (arith, n)) vs ws rest))

-- equal tokens have the same pairs
pairs_are : {ts us : List Item} {ps qs : List (ℕ × ℕ)} → ArePairs ts ps → ArePairs us qs → ts ≡ us → ps ≡ qs
pairs_are no_pairs no_pairs e = refl
pairs_are no_pairs (one_pair h z k r) e = absurd (empty_more _ _ e)
pairs_are (one_pair h z k r) no_pairs e = absurd (empty_more _ _ (sym e))
pairs_are (one_pair {t = t} {u = u} {base = a} {result = b} {ts = ts} {ps = ps} h z k r)
    (one_pair {t = t'} {u = u'} {base = a'} {result = b'} {ts = ts'} {ps = ps'} h' z' k' r') e =
    let rest : ts ≡ ts' = cc in
    let more = pairs_are r r' rest in
    cc

-- tokens define one thing
pub defined_is : {ts us : List Item} {d e : Definition} → Defines ts d → Defines us e → ts ≡ us → d ≡ e
defined_is o p h = grind (arith, cells_are, pairs_are)
