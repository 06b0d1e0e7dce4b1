-- What tells that a change is unseen.
use Rattle.std.proofs.Common.{◌≡◌, ℕ, ◌+◌, ◌*◌, ◌/◌, ◌%◌, ◌<◌, ◌≤◌, inl, inr, Bool, true, false, refl, ap, Option, None}
use Rattle.std.proofs.Common.{Some, subst, sym, ◌∙◌, arith, rules}
use Rattle.std.proofs.Math.ListN.{get_or, length}
use Rattle.std.proofs.lemmas.List.{get_or_read_under}
use Rattle.std.specs.Prelude.{is_some}
use Rattle.keymap_core.specs.Maps.{MapValue, entry_at, cell_at}
use Rattle.keymap_core.specs.Numbers.{slot_limit, column_count, accent_limit}
use Rattle.keymap_core.specs.declared.entry.Cell.{Cell as CellValue}
use Rattle.keymap_core.specs.declared.entry.Entry.{Entry}
use Rattle.keymap_diff.specs.Changes.{IsMark, MeetsCell, MeetsLetters, MeetsSetting, MeetsDeadKey}
use Rattle.keymap_diff.specs.Changes.{MeetsDeadKeyAt, place_of, pairs_of, HaveSameResults}
use Rattle.keymap_diff.specs.Inner.Pushing.{IsAt, IsOne}
use Rattle.keymap_diff.specs.Inner.Versions.{IsChangeOf}
use Rattle.keymap_diff.specs.Types.{Change, Slots, Cell, Letter, Accents, Pair, ListedOtherwise, Versions, LockFlag}

-- one mark alone is right
pub mark-one : (known : Bool) (m n : MapValue) (Meets : MapValue → Type 0) (u w : Bool) → IsMark known m n Meets u
    → IsMark known m n Meets w → u ≡ w
mark-one false m n Meets u w a b = a ∙ sym b
mark-one true m n Meets true true a b = refl
mark-one true m n Meets false false a b = refl
mark-one true m n Meets true false (old, new) (inl is) = absurd (old is)
mark-one true m n Meets true false (old, new) (inr is) = absurd (new is)
mark-one true m n Meets false true (inl is) (old, new) = absurd (old is)
mark-one true m n Meets false true (inr is) (old, new) = absurd (new is)

-- ---- the one change at a place

pub cell-only : (v : Versions) (slot column place : ℕ) (w : Bool) → column < column_count → slot < slot_limit
    → place ≡ slot * 9 + column → IsMark (is_some v.seen) v.old.now v.new.now (MeetsCell slot column) w → (x : Change)
    → IsAt v (2 + place) x
    → Cell slot column (cell_at v.old.now slot column) (cell_at v.new.now slot column) w ≡ x
cell-only v slot column place w eight few split mark (Cell s c a b u) (is, at) =
    search (rules, mark-one)
cell-only v slot column place w eight few split mark x (is, at) = absurd (omega (arith, at, eight, few, split))

pub letter-only : (v : Versions) (slot : ℕ) (w : Bool) → slot < slot_limit
    → IsMark (is_some v.seen) v.old.now v.new.now
    (MeetsLetters slot (entry_at v.old.now slot).flag (entry_at v.new.now slot).flag) w
    → (x : Change) → IsAt v (2 + (slot * 9 + 8)) x
    → Letter slot (entry_at v.old.now slot).flag (entry_at v.new.now slot).flag w ≡ x
letter-only v slot w few mark (Letter s a b u) (is, at) = search (rules, mark-one)
letter-only v slot w few mark x (is, at) = search rules

pub order-only : (v : Versions) (accent : ℕ) → accent < accent_limit → (x : Change)
    → IsAt v (2306 + (accent * 3 + 2)) x → ListedOtherwise accent ≡ x
order-only v accent few (ListedOtherwise i) (is, at) = let e : i ≡ accent = omega (arith, at) in cc
order-only v accent few x (is, at) = search rules

-- what stands at the place of an accent's pairs is one of these
pub pairs-only : (v : Versions) (accent : ℕ) → accent < accent_limit → (x : Change)
    → IsAt v (2306 + (accent * 3 + 1)) x
    → (base : ℕ) × (a b : Option ℕ) × (u : Bool) × (Pair accent base a b u ≡ x)
pairs-only v accent few (Pair i c a b u) (is, at) =
    let e : i ≡ accent = omega (arith, at) in (c, a, b, u, ap (λ z. Pair z c a b u) (sym e))
pairs-only v accent few x (is, at) = search rules

-- ---- what no press meets

pub no_setting : (slot : ℕ) (f g : LockFlag) (m : MapValue) → (MeetsSetting slot f g false false m → ⊥)
    → (MeetsSetting slot f g false true m → ⊥) → (MeetsSetting slot f g true false m → ⊥)
    → (MeetsSetting slot f g true true m → ⊥) → MeetsLetters slot f g m → ⊥
no_setting slot f g m none num caps both (false, false, meets) = none meets
no_setting slot f g m none num caps both (false, true, meets) = num meets
no_setting slot f g m none num caps both (true, false, meets) = caps meets
no_setting slot f g m none num caps both (true, true, meets) = both meets

pub no_dead_key : (i : ℕ) (m : MapValue) (n : ℕ) → 2048 ≤ n
    → ((k : ℕ) → k < n → MeetsDeadKeyAt i m (k / 8) (k % 8) → ⊥) → MeetsDeadKey i m → ⊥
no_dead_key i m n all none (slot, column, few, eight, meets) =
    let e : (slot * 8 + column) / 8 ≡ slot = omega (arith, eight) in
    let f : (slot * 8 + column) % 8 ≡ column = omega (arith, eight) in
    none (slot * 8 + column) (omega (arith, all, few, eight))
    (subst (λ z. MeetsDeadKeyAt i m ((slot * 8 + column) / 8) z) (sym f)
    (subst (λ z. MeetsDeadKeyAt i m z column) (sym e) meets))

-- ---- that change, where the keymaps differ there

pub letter_one : (v : Versions) (slot : ℕ) (f g : LockFlag) (w : Bool) → slot < slot_limit
    → (entry_at v.old.now slot).flag ≡ f → (entry_at v.new.now slot).flag ≡ g → (f ≡ g → ⊥)
    → IsMark (is_some v.seen) v.old.now v.new.now (MeetsLetters slot f g) w
    → IsOne (IsAt v (2 + (slot * 9 + 8))) (Some (Letter slot f g w))
letter_one v slot f g w few old new ne mark = search (rules, letter-only)

-- what is read of an entry's cells is the cell
pub reads_cell : (m : MapValue) (e : Entry) (slot column : ℕ) (x : CellValue) → e ≡ entry_at m slot
    → column < length e.cells → x ≡ get_or e.cells column x → cell_at m slot column ≡ x
reads_cell m e slot column x same lt is = search (rules, get_or_read_under)

pub cell_one : (v : Versions) (slot column place : ℕ) (a b : CellValue) (w : Bool) → column < column_count
    → slot < slot_limit → place ≡ slot * 9 + column → cell_at v.old.now slot column ≡ a
    → cell_at v.new.now slot column ≡ b → (a ≡ b → ⊥)
    → IsMark (is_some v.seen) v.old.now v.new.now (MeetsCell slot column) w
    → IsOne (IsAt v (2 + place)) (Some (Cell slot column a b w))
cell_one v slot column place a b w eight few split old new ne mark = search (rules, cell-only)

-- none, where the cells are the same
pub cell_none : (v : Versions) (slot column place : ℕ) (a b : CellValue) → column < column_count
    → slot < slot_limit → place ≡ slot * 9 + column → cell_at v.old.now slot column ≡ a
    → cell_at v.new.now slot column ≡ b → a ≡ b → IsOne (IsAt v (2 + place)) None
cell_none v slot column place a b eight few split was is same (Cell s d x y w) ((low, below, old, new, ne, mark), at) =
    search rules
cell_none v slot column place a b eight few split was is same x (of, at) = absurd (omega (arith, at, eight, few, split))

pub order_one : (v : Versions) (i : ℕ) → i < accent_limit
    → HaveSameResults (pairs_of v.old.now i) (pairs_of v.new.now i)
    → (pairs_of v.old.now i ≡ pairs_of v.new.now i → ⊥) → IsOne (IsAt v (2306 + (i * 3 + 2))) (Some (ListedOtherwise i))
order_one v i few same ne = (((few, same, ne), refl), order-only v i few)

pub order_none : (v : Versions) (i : ℕ) → i < accent_limit → pairs_of v.old.now i ≡ pairs_of v.new.now i
    → IsOne (IsAt v (2306 + (i * 3 + 2))) None
order_none v i few same x is = search (rules, order-only)

pub place_below : (v : Versions) (x : Change) → IsChangeOf v x → place_of x < 2351
place_below v (Slots a b) is = omega arith
place_below v (Accents a b) is = omega arith
place_below v x is = let lt = is.0 in let le = is.1 in omega (arith, lt, le)
