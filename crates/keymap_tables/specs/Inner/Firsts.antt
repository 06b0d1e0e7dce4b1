-- What functions that go over a part of a file or of a map tell of it. HasNoFault is what the readers of
-- src/read_slot.rt, src/read_accent.rt and src/content.rt say of a part; IsFirstFilled mirrors `check_zeros` of
-- src/number.rt, IsFirstWideNumber `wide_column` of src/slot.rt and `wide_number` of src/accent.rt, IsFirstWideRow
-- `first_wide` of src/narrow.rt.
use Rattle.std.specs.Prelude.{◌≡◌, ℕ, ◌<◌, ◌≤◌, List, length, slice_index_or, None, Some}
use Rattle.keymap_tables.specs.Types.{TableFaultKind, TableFault}
use Rattle.keymap_tables.specs.Faults.{FaultOf, zero_fault}

-- the first n places have no fault
abbrev pub HasNoFault : FaultOf → ℕ → Type 0
HasNoFault fault_of n = (p : ℕ) → p < n → fault_of p ≡ None

-- of the bytes from a place on, which have to be 0, the fault at the first that isn't
pub record IsFirstFilled (bytes : List ℕ) (from : ℕ) (kind : TableFaultKind) (f : TableFault) : Type 0 where
  pub here : zero_fault kind bytes f.offset ≡ Some f.kind
  pub past : from ≤ f.offset
  pub inside : f.offset < length bytes
  pub before : (p : ℕ) → from ≤ p → p < f.offset → zero_fault kind bytes p ≡ None

-- of numbers, given by their index, the first that is above 255, which is one of so many
pub record IsFirstWideNumber (number : ℕ → ℕ) (size index : ℕ) : Type 0 where
  pub here : 255 < number index
  pub inside : index < size
  pub before : (k : ℕ) → k < index → number k ≤ 255

-- the first row that doesn't fit, and the first of its numbers above 255
pub record IsFirstWideRow {X : Type 0} (RowFits : X → Type 0) (number : X → ℕ → ℕ) (size : ℕ) (rows : List X)
    (blank : X) (row index : ℕ) : Type 0 where
  pub here : IsFirstWideNumber (number (slice_index_or rows row blank)) size index
  pub before : (i : ℕ) → i < row → RowFits (slice_index_or rows i blank)
