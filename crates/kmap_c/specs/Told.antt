-- What a caller in C is told of a keymap that isn't safe.
use Rattle.std.specs.Prelude.{◌≡◌, ◌⊎◌, ◌==◌, nat_le, if◌then◌else◌, ℕ, ℤ, List, length}
use Rattle.keymap_core.specs.declared.entry.Cell.{Cell}
use Rattle.keymap_core.specs.declared.entry.Cell.TheVariants.{Char, Act}
use Rattle.keymap_core.specs.Actions.{holding_index}
use Rattle.keymap_core.specs.Maps.{MapValue, cell_at}
use Rattle.keymap_check.specs.declared.finding.Finding.{Finding}
use Rattle.keymap_check.specs.declared.bearer.Bearer.{Bearer}
use Rattle.keymap_check.specs.declared.bearer.Bearer.TheVariants.{Nobody, Throughout, Sole, Several}
use Rattle.keymap_tables.specs.Faults.{IsTableFault}
use Rattle.keymap_tables.specs.Layouts.{wide, file_size}
use Rattle.keymap_tables.specs.declared.fault.TableFault.{TableFault}
use Rattle.kmap_c.specs.declared.tables.KmapBearer.{KmapBearer}
use Rattle.kmap_c.specs.declared.tables.KmapFinding.{KmapFinding}
use Rattle.kmap_c.specs.Statuses as status

abbrev pub character_in : Cell → ℕ
character_in (Char c) = c
character_in (Act a) = 0

-- The key, the index of its modifier or lock with its place, and its character with its place.
pub record IsTold (m : MapValue) (f : Finding) (t : KmapFinding) : Type 0 where
  pub key : t.key ≡ f.key
  pub holding : t.holding ≡ holding_index f.holding
  pub holding_slot : t.holding_slot ≡ f.holding_at.slot
  pub holding_column : t.holding_column ≡ f.holding_at.column
  pub character : cell_at m f.character_at.slot f.character_at.column ≡ Char t.character
  pub character_slot : t.character_slot ≡ f.character_at.slot
  pub character_column : t.character_column ≡ f.character_at.column

-- tables of the right length that have a fault
abbrev pub AreFaulty : List ℕ → Type 0
AreFaulty tables = (length tables ≡ file_size wide) × ((f : TableFault) × IsTableFault tables f)

abbrev pub IsAcceptance : ℤ → Type 0
IsAcceptance r =
    (r ≡ status.done) ⊎ (r ≡ status.bad_length) ⊎ (r ≡ status.faulty) ⊎ (r ≡ status.unsafe)

abbrev pub IsPrintStatus : ℤ → Type 0
IsPrintStatus r =
    (r ≡ status.done) ⊎ (r ≡ status.bad_length) ⊎ (r ≡ status.no_room) ⊎ (r ≡ status.faulty)

abbrev pub IsToldBearer : Bearer → KmapBearer → Type 0
IsToldBearer Nobody t = (t.kind ≡ 0) × (t.key ≡ 0)
IsToldBearer (Throughout k) t = (t.kind ≡ 1) × (t.key ≡ k)
IsToldBearer (Sole k) t = (t.kind ≡ 2) × (t.key ≡ k)
IsToldBearer Several t = (t.kind ≡ 3) × (t.key ≡ 0)

abbrev pub bearer_status : List ℕ → ℕ → ℤ
bearer_status tables holding =
    if length tables == file_size wide then (if nat_le holding 11 then status.done else status.bad_holding)
    else status.bad_length
