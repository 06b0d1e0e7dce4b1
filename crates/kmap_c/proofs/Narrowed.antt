-- Narrow tables and the tables of the same keymap.
use Rattle.kmap_c.proofs.Common.{IsMap, MapValue, List, image, subst, sym, ◌∙◌, ◌≡◌, ◌≢◌, ℕ}
use Rattle.std.proofs.Common.{◌↔◌}
use Rattle.std.specs.Prelude.{ℤ}
use Rattle.keymap_tables.proofs.Shared.{map-wide, no-fault, same-map}
use Rattle.keymap_tables.specs.Faults.{IsNarrowFault}
use Rattle.keymap_tables.specs.Fits.{Fits}
use Rattle.keymap_tables.specs.Image.{narrow_image}
use Rattle.keymap_tables.specs.Layouts.{narrow, wide}
use Rattle.kmap_c.specs.Narrow.{AreNarrowOf, AreFaultyNarrow}
use Rattle.kmap_c.specs.Statuses as status

-- narrow tables are those of the keymap that the tables show
pub narrow-of : (small tables : List ℕ) (m : MapValue) → AreNarrowOf small tables → IsMap m → tables ≡ image m
    → Fits m × (small ≡ narrow_image m)
narrow-of small tables m are is same =
    subst (λ (n : MapValue). Fits n × (small ≡ narrow_image n))
    (same-map wide are.0 m are.1 (map-wide are.0 are.1) is (map-wide m is) (sym are.4 ∙ same)) (are.2, are.3)

-- where narrow tables are those of a keymap, another answer than that they are faulty is right
pub unfaulty-narrow : (answer : ℤ) (small : List ℕ) → answer ≢ status.faulty
    → (m : MapValue) × IsMap m × Fits m × (small ≡ narrow_image m)
    → (answer ≡ status.faulty) ↔ AreFaultyNarrow small
unfaulty-narrow answer small other read = (
  λ is. absurd (other is),
  λ faulty. absurd (no-fault narrow read.0 faulty.1.0 read.1 read.2
      (subst (λ (v : List ℕ). IsNarrowFault v faulty.1.0) read.3 faulty.1.1)),
)
