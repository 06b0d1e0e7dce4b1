-- Tables that are those of a keymap have no fault.
use Rattle.kmap_c.proofs.Common.{◌≡◌, ◌≢◌, ℕ, List, rules}
use Rattle.std.proofs.Common.{◌↔◌}
use Rattle.std.specs.Prelude.{ℤ}
use Rattle.keymap_tables.proofs.Shared.{map-wide, no-fault}
use Rattle.kmap_c.specs.Calls.{AreTables}
use Rattle.kmap_c.specs.Statuses as status
use Rattle.kmap_c.specs.Told.{AreFaulty}

not-faulty : (tables : List ℕ) → AreTables tables → AreFaulty tables → ⊥
not-faulty tables read faulty = search (rules, no-fault, map-wide)

-- where tables are those of a keymap, another answer than that they are faulty is right
pub unfaulty : (answer : ℤ) (tables : List ℕ) → answer ≢ status.faulty → AreTables tables
    → (answer ≡ status.faulty) ↔ AreFaulty tables
unfaulty answer tables other read =
    (λ is. absurd (other is), λ faulty. absurd (not-faulty tables read faulty))
