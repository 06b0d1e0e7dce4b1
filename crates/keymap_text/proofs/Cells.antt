-- The places of cells, and of the lock letter behind them.
use Rattle.keymap_text.proofs.Common.{◌≡◌, ℕ, ◌+◌, ◌<◌, ◌==◌, cond, List, sym, subst, arith, Entry, MapValue, Grammar}
use Rattle.keymap_text.proofs.Common.{GrammarPlace, at, after_cell, Advances, place_view, grammar_view}
use Rattle.keymap_text.specs.declared.grammar.Place.TheVariants as places
use Rattle.keymap_text.specs.Inner.Grammar as spec

-- the place of the cell with this index, or of the lock letter behind the eight cells
abbrev pub cell_place : ℕ → ℕ → Entry → GrammarPlace
cell_place slot i e = cond (i == 8) (spec.LockAt slot e) (spec.CellAt slot i e)

-- before the eighth cell was taken a cell is wanted
pub is_cell : (slot i : ℕ) (e : Entry) → i < 8 → spec.CellAt slot i e ≡ cell_place slot i e
is_cell slot i e l = grind arith

-- behind the eighth cell the lock letter is wanted
pub is_lock : (slot i : ℕ) (e : Entry) → i ≡ 8 → spec.LockAt slot e ≡ cell_place slot i e
is_lock slot i e h = grind arith

-- what is wanted behind a cell
pub next_place : (slot i : ℕ) (e : Entry) → after_cell slot i e ≡ cell_place slot (i + 1) e
next_place slot i e = grind arith

-- the cells so far, from the place where the first of them is wanted
pub so_far : (m : MapValue) (slot first : ℕ) (r : Grammar) (p q : GrammarPlace) (rest : List ℕ) (n : ℕ)
    → r.place ≡ places.Cell slot first → q ≡ p → Advances (at m (spec.CellAt slot first r.entry)) (at m p) rest n
    → Advances (at m (grammar_view r)) (at m q) rest n
so_far m slot first r p q rest n place e a =
    subst (λ v. Advances (at m (place_view v r.entry r.accent)) (at m q) rest n) (sym place)
    (subst (λ v. Advances (at m (spec.CellAt slot first r.entry)) (at m v) rest n) (sym e) a)
