-- What a row of the table tells of its key.
use Rattle.std.specs.Prelude.{◌≡◌, ℕ, Bool, true, false}
use Rattle.keyboard.specs.declared.board.Board.TheVariants.{Iso}
use Rattle.keyboard.specs.declared.table.Block.{Block}
use Rattle.keyboard.specs.declared.table.Block.TheVariants.{Pad, Off}
use Rattle.keyboard.specs.declared.table.Row.{Row}
use Rattle.keyboard.specs.Boards.{is_on, is_on_pad, name_of}
use Rattle.keyboard.specs.Codes.{set1_of, qcode_of}
use Rattle.keyboard.specs.Filled.{unfilled}

abbrev pub stands : Block → Bool
stands Off = false
stands block = true

abbrev pub is_pad : Block → Bool
is_pad Pad = true
is_pad block = false

pub record IsRowOf (row : Row) (code : ℕ) : Type 0 where
  pub on : stands row.0 ≡ is_on Iso code
  pub on_pad : is_pad row.0 ≡ is_on_pad code
  pub name : unfilled 32 row.1 ≡ name_of Iso code
  pub qcode : unfilled 32 row.2 ≡ qcode_of code
  pub set1 : unfilled 0 row.3 ≡ set1_of code
