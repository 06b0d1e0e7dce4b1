-- The image of a slot: it has no fault, and gives the entry.
use Rattle.keymap_tables.proofs.Common.{rules, eq-eqb, ◌≡◌, ℕ, ◌+◌, ◌-◌, ◌*◌, ◌/◌, ◌%◌, ◌^◌, ◌<◌, ◌≤◌, ◌==◌, suc, zero}
use Rattle.keymap_tables.proofs.Common.{List, [], ◌∷◌, ◌++◌, drop, length, get_or, take, None, refl, sym, ap, ◌∙◌}
use Rattle.keymap_tables.proofs.Common.{subst, inl, inr, arith, append_assoc, length-append, drop-cons, mul_comm, set}
use Rattle.keymap_tables.proofs.Common.{All, slice_index, nat_le, Bool, true, false, IsScalar, flat_map, cases_lt}
use Rattle.keymap_tables.proofs.Common.{nat_tests, common_steps, get_or-append_right, length-replicate, same_lists}
use Rattle.keymap_tables.proofs.Common.{take-append-drop, take_more_set, All-get_or, All-push, undefined, Cell, Char}
use Rattle.keymap_tables.proofs.Common.{Act, Entry, Layout, Wide, Narrow, BadPad, IsCell, IsEntry, number_at}
use Rattle.keymap_tables.proofs.Common.{is_marked_at, char_fault, cell_fault, slot_end_fault, slot_fault, zero_fault}
use Rattle.keymap_tables.proofs.Common.{HasNoFault, AreRows, IsEntryIn, cell_bytes, number_of, is_act, marks_of}
use Rattle.keymap_tables.proofs.Common.{flag_number, slot_bytes, zeros, CellFits, EntryFits, number_width, number_size}
use Rattle.keymap_tables.proofs.Common.{number_limit, pad_size, slot_size}
use Rattle.keymap_core.specs.Actions.{IsAction, code_of, within}
use Rattle.keymap_core.specs.declared.action.Action.{Action}
use Rattle.keymap_tables.specs.Types.{LockFlag}
use Rattle.keymap_tables.specs.Faults.{cell_faults, flag_fault}
use Rattle.keymap_tables.proofs.Lifting.{row-past, number-clean, none-past}
use Rattle.keymap_tables.proofs.Marks.{mark-bit}
use Rattle.keymap_tables.proofs.Numbers.{AreBytes, number-back, number-read, zeros-behind, drop-zeros}
use Rattle.keymap_tables.proofs.Rows.{length-rows, row-in, rows-clean, rows-read}
use Rattle.keymap_tables.proofs.Sizes.{some-number, slot-some, slot-blank, length-number}
use Rattle.keymap_core.proofs.Shared.{code-read}
use Rattle.keymap_core.specs.declared.action.Action.TheVariants as a
use Rattle.keymap_core.specs.declared.action.Modifier.TheVariants as m
use Rattle.keymap_core.specs.declared.action.Lock.TheVariants as lock
use Rattle.keymap_core.specs.declared.entry.LockFlag.TheVariants as flag

-- The codes are small, and none is that of a combined action.
pub code-bounds : (action : Action) → IsAction action
    → (code_of action < 256) × (within 0x9b 0xa0 (code_of action) ≡ false)
code-bounds (a.Screen n) known = (omega arith, grind (arith, nat_tests))
code-bounds (a.Function n) known = (omega arith, grind (arith, nat_tests))
code-bounds (a.DeadKey n) known = (omega arith, grind (arith, nat_tests))
code-bounds (a.Mod m.LeftShift) known = (omega arith, refl)
code-bounds (a.Lock lock.Caps) known = (omega arith, refl)
code-bounds _ known = (omega arith, refl)

-- A scalar value is small, and no fault.
pub scalar-small : (c : ℕ) → IsScalar c → c < 2 ^ 32
scalar-small c known = grind (arith, nat_tests)

-- a scalar value is no fault
pub char-sound : (c : ℕ) → IsScalar c → char_fault c ≡ None
char-sound c known = rw (known) refl

-- the number and mark of a known cell are no fault
pub cell-sound : (cell : Cell) → IsCell cell → cell_fault (number_of cell) (is_act cell) ≡ None
cell-sound (Char c) known = char-sound c known
cell-sound (Act action) known = rw ((code-bounds action known).1, code-read action known) refl

-- The places behind the cells.
module _ (l : Layout) (bytes : List ℕ) where
  slot-behind : (p : ℕ) → 8 * number_size l ≤ p → slot_fault l bytes p ≡ slot_end_fault l bytes p
  slot-behind p past =
      row-past (cell_faults l bytes) (number_size l) 8 (slot_end_fault l bytes) bytes p (some-number l) (omega arith)

  pub slot-flag : slot_fault l bytes (8 * number_size l + 1) ≡ flag_fault (slice_index bytes (8 * number_size l + 1))
  slot-flag = grind arith

  pub slot-pad : (p : ℕ) → 8 * number_size l + 2 ≤ p → slot_fault l bytes p ≡ zero_fault BadPad bytes p
  slot-pad p past = search rules

  -- no fault before the flag, and before the pads
  pub slot-marks : HasNoFault (slot_fault l bytes) (8 * number_size l)
      → HasNoFault (slot_fault l bytes) (8 * number_size l + 1)
  slot-marks cells p below =
      elim (cases_lt p (8 * number_size l)) [
        | inl front ↦ cells p front
        | inr from ↦ let same : 8 * number_size l ≡ p = omega arith in
            subst (λ (q : ℕ). slot_fault l bytes q ≡ None) same
            (slot-behind (8 * number_size l) (omega arith) ∙ rw (eq-eqb (8 * number_size l) _ refl) refl)
      ]

  pub slot-front : HasNoFault (slot_fault l bytes) (8 * number_size l)
      → slice_index bytes (8 * number_size l + 1) ≤ 3 → HasNoFault (slot_fault l bytes) (8 * number_size l + 2)
  slot-front cells small p below =
      elim (cases_lt p (8 * number_size l + 1)) [
        | inl front ↦ slot-marks cells p front
        | inr from ↦ let same : 8 * number_size l + 1 ≡ p = omega arith in
            let few : nat_le (slice_index bytes (8 * number_size l + 1)) 3 ≡ true = grind (arith, nat_tests) in
            subst (λ (q : ℕ). slot_fault l bytes q ≡ None) same (slot-flag ∙ rw few refl)
      ]

-- a flag's number is small
pub small-flag : (byte : ℕ) (flag : LockFlag) → flag_number flag ≡ byte → byte ≤ 3
small-flag byte flag.O is = omega arith
small-flag byte _ is = omega arith

-- the number of a known cell that fits is within its size
pub number-small : (l : Layout) (cell : Cell) → IsCell cell → CellFits l cell → number_of cell < number_limit l
number-small l (Char c) known fits = fits
number-small Wide (Act action) known fits = omega (arith, (code-bounds action known).0)
number-small Narrow (Act action) known fits = (code-bounds action known).0

-- the bytes of each cell have the size of a number
cells-sized : (l : Layout) (cells : List Cell) → All (λ c. length (cell_bytes l c) ≡ number_size l) cells
cells-sized l cells k d below = length-number l (number_of (get_or cells k d))

-- the cells of a known entry have eight numbers
cells-long : (l : Layout) (entry : Entry) → IsEntry entry
    → length (flat_map (cell_bytes l) entry.cells) ≡ 8 * number_size l
cells-long l entry known =
    length-rows (cell_bytes l) (number_size l) entry.cells (cells-sized l entry.cells)
    ∙ ap (λ (n : ℕ). number_size l * n) known.eight ∙ mul_comm (number_size l) 8

-- what follows the cells of a slot
abbrev tail_of : Layout → Entry → List ℕ
tail_of l entry = marks_of entry.cells ∷ flag_number entry.flag ∷ zeros (pad_size l)

-- The cells, the marks and the flag stand in their places, and zeros behind them.
pub number-in : (l : Layout) (entry : Entry) (d : Cell) (i : ℕ) → IsEntry entry → EntryFits l entry → i < 8
    → number_at l (slot_bytes l entry) (number_size l * i) ≡ number_of (get_or entry.cells i d)
number-in l entry d i known fits below = search (rules, row-in, cells-sized, number-back, number-small, All-get_or)

-- behind the cells of a slot stand their marks
marks-in : (l : Layout) (entry : Entry) → IsEntry entry
    → slice_index (slot_bytes l entry) (8 * number_size l) ≡ marks_of entry.cells
marks-in l entry known = search (rules, get_or-append_right, cells-long)

-- the mark read in a slot tells whether the cell is an action
pub mark-in : (l : Layout) (entry : Entry) (d : Cell) (i : ℕ) → IsEntry entry → i < 8
    → is_marked_at l (slot_bytes l entry) i ≡ is_act (get_or entry.cells i d)
mark-in l entry d i known below =
    ap (λ (m : ℕ). m / 2 ^ (7 - i) % 2 == 1) (marks-in l entry known) ∙ mark-bit entry.cells known.eight d i below

-- behind the marks of a slot stands the entry's flag
pub flag-in : (l : Layout) (entry : Entry) → IsEntry entry
    → slice_index (slot_bytes l entry) (8 * number_size l + 1) ≡ flag_number entry.flag
flag-in l entry known = search (rules, get_or-append_right, cells-long)

-- behind the flag stand zeros
pads-in : (l : Layout) (entry : Entry) (p : ℕ) → IsEntry entry → 8 * number_size l + 2 ≤ p
    → slice_index (slot_bytes l entry) p ≡ 0
pads-in l entry p known past = grind (arith, common_steps, append_assoc, length-append, cells-long, zeros-behind)

-- the bytes of a known entry have the size of a slot
pub length-slot_bytes : (l : Layout) (entry : Entry) → IsEntry entry → length (slot_bytes l entry) ≡ slot_size l
length-slot_bytes l entry known = search (rules, length-append, cells-long, length-replicate)

-- the bytes of a known entry that fits have no fault
slot_bytes-sound : (l : Layout) (entry : Entry) → IsEntryIn l entry
    → HasNoFault (slot_fault l (slot_bytes l entry)) (slot_size l)
slot_bytes-sound l entry (known, fits) =
    let bytes = slot_bytes l entry in
    let cells =
    rows-clean (cell_bytes l) (number_size l) (cell_faults l bytes) 8 (slot_end_fault l bytes) entry.cells
    (tail_of l entry) (Char 0) (some-number l) (sym known.eight) (cells-sized l entry.cells)
    (λ i below. number-clean (number_width l) (λ n. cell_fault n (is_marked_at l bytes i))
    (cell_bytes l (get_or entry.cells i (Char 0))) (number_size l)
    (ap (λ (n : ℕ). cell_fault n (is_marked_at l (slot_bytes l entry) i))
    (number-back l (number_of (get_or entry.cells i (Char 0)))
    (number-small l (get_or entry.cells i (Char 0)) (All-get_or IsCell entry.cells i (Char 0) below known.cells)
    (All-get_or (CellFits l) entry.cells i (Char 0) below fits)))
    ∙ ap (λ (t : Bool). cell_fault (number_of (get_or entry.cells i (Char 0))) t)
    (mark-in l entry (Char 0) i known (omega (arith, known.eight)))
    ∙ cell-sound (get_or entry.cells i (Char 0)) (All-get_or IsCell entry.cells i (Char 0) below known.cells))) in
    none-past BadPad (slot_fault l bytes) bytes (8 * number_size l + 2) (slot_size l)
    (λ p past inside. slot-pad l bytes p past)
    (slot-front l bytes (λ p below. cells p (omega (arith, below)))
    (small-flag (slice_index bytes (8 * number_size l + 1)) entry.flag (sym (flag-in l entry known))))
    (λ p past. pads-in l entry p known past)

-- the lock flag of a number
flag_of : ℕ → LockFlag
flag_of zero = flag.O
flag_of (suc zero) = flag.C
flag_of (suc (suc zero)) = flag.N
flag_of (suc (suc (suc n))) = flag.B

-- the number of a lock flag, read again, gives the flag
flag-again : (k : LockFlag) → flag_of (flag_number k) ≡ k
unfolding flag_of
flag-again flag.O = refl
flag-again _ = refl

-- lock flags are the same where their numbers are
pub same-flag : (x y : LockFlag) → flag_number x ≡ flag_number y → x ≡ y
same-flag x y same = sym (flag-again x) ∙ ap flag_of same ∙ flag-again y

-- known cells are the same where their numbers and marks are
pub same-cell : (x y : Cell) → IsCell x → IsCell y → number_of x ≡ number_of y → is_act x ≡ is_act y → x ≡ y
same-cell x y known also same marked = grind arith

-- known entries that fit are the same where their bytes are
pub same-entry : (l : Layout) (x y : Entry) → IsEntryIn l x → IsEntryIn l y
    → slot_bytes l x ≡ slot_bytes l y → x ≡ y
same-entry l x y known also same =
    let cells : x.cells ≡ y.cells = same_lists x.cells y.cells (known.0.eight ∙ sym also.0.eight) (λ k d below.
    let column : k < 8 = omega (arith, below, known.0.eight) in
    let within : k < length y.cells = omega (arith, column, also.0.eight) in
    same-cell (get_or x.cells k d) (get_or y.cells k d) (All-get_or IsCell x.cells k d below known.0.cells)
    (All-get_or IsCell y.cells k d within also.0.cells)
    (sym (number-in l x d k known.0 known.1 column) ∙ ap (λ (v : List ℕ). number_at l v (number_size l * k)) same
    ∙ number-in l y d k also.0 also.1 column)
    (sym (mark-in l x d k known.0 column) ∙ ap (λ (v : List ℕ). is_marked_at l v k) same
    ∙ mark-in l y d k also.0 column)) in
    let flags =
    same-flag x.flag y.flag
    (sym (flag-in l x known.0) ∙ ap (λ (v : List ℕ). slice_index v (8 * number_size l + 1)) same
    ∙ flag-in l y also.0) in
    ap (λ (xs : List Cell). record x { cells = xs }) cells ∙ ap (λ (k : LockFlag). record y { flag = k }) flags

-- the slots of a table are rows
pub slots-are : (l : Layout) → AreRows (slot_bytes l) (slot_size l) (slot_fault l) (IsEntryIn l) undefined
slots-are l = search (rules, slot-some, length-slot_bytes, slot_bytes-sound, same-entry, slot-blank)

-- the parts of a slot, written in turn
pub slot-written : (l : Layout) (entry : Entry) (cells : List Cell) (i marks flag n : ℕ) (a b c e : List ℕ)
    → cells ≡ entry.cells → length cells ≤ i → a ≡ flat_map (cell_bytes l) (take i cells)
    → marks ≡ marks_of (take i cells) → flag ≡ flag_number entry.flag → b ≡ a ++ marks ∷ [] → c ≡ b ++ flag ∷ []
    → e ≡ c ++ zeros n → n ≡ pad_size l → e ≡ slot_bytes l entry
slot-written l entry cells i marks flag n a b c e same end written mark flagged first second third pads =
    grind (arith, common_steps)

-- what holds for the elements below i, and for one set at i, holds for those below i + 1
pub All-more_set : {X : Type 0} (P : X → Type 0) (xs : List X) (i : ℕ) (x : X) → i < length xs → All P (take i xs) → P x
    → All P (take (i + 1) (set xs i x))
All-more_set P xs i x below so_far is = rw (take_more_set xs i x below) (All-push P (take i xs) x so_far is)

-- a cell whose number fits, fits
pub cell-fits : (l : Layout) (cell : Cell) (n : ℕ) → number_of cell ≡ n → n < number_limit l → CellFits l cell
cell-fits l (Char c) n is small = rw is small
cell-fits l (Act a) n is small = omega (arith, small)

-- a further cell is read: the cells so far have the bytes so far
pub bytes-more : (l : Layout) (bytes : List ℕ) (cells : List Cell) (i : ℕ) (cell : Cell) → AreBytes bytes
    → number_size l * i + number_size l ≤ length bytes → i < length cells
    → flat_map (cell_bytes l) (take i cells) ≡ take (number_size l * i) bytes
    → number_of cell ≡ number_at l bytes (number_size l * i)
    → flat_map (cell_bytes l) (take (i + 1) (set cells i cell)) ≡ take (number_size l * (i + 1)) bytes
bytes-more l bytes cells i cell small fits below so_far number = search (rules, take_more_set, rows-read, number-read)

-- after eight cells the marks are those of the cells
pub marks-all : (marks : ℕ) (cells : List Cell) (i : ℕ) → i ≡ 8 → length cells ≡ 8
    → marks_of (take i cells) ≡ marks / 2 ^ (8 - i) → marks ≡ marks_of cells
marks-all marks cells i end whole so_far = grind (arith, common_steps)

-- what follows the cells: the marks, the flag, and zeros
pub slot-tail : (l : Layout) (bytes : List ℕ) → length bytes ≡ slot_size l
    → ((p : ℕ) → 8 * number_size l + 2 ≤ p → slice_index bytes p ≡ 0)
    → drop (8 * number_size l) bytes
    ≡ get_or bytes (8 * number_size l) 0 ∷ get_or bytes (8 * number_size l + 1) 0 ∷ zeros (pad_size l)
slot-tail l bytes whole empty =
    let at = 8 * number_size l in
    grind (
      arith,
      common_steps,
      drop-cons bytes at 0,
      drop-cons bytes (at + 1) 0,
      drop-zeros bytes (at + 2) empty,
    )

-- a slot by its parts
pub slot-whole : (l : Layout) (bytes : List ℕ) (entry : Entry) → length bytes ≡ slot_size l
    → take (8 * number_size l) bytes ≡ flat_map (cell_bytes l) entry.cells
    → slice_index bytes (8 * number_size l) ≡ marks_of entry.cells
    → flag_number entry.flag ≡ slice_index bytes (8 * number_size l + 1)
    → ((p : ℕ) → 8 * number_size l + 2 ≤ p → slice_index bytes p ≡ 0) → bytes ≡ slot_bytes l entry
slot-whole l bytes entry whole cells marks flag empty = grind (arith, common_steps, take-append-drop, slot-tail)
