-- What the check reports, as a computation.
use Prim.Native.Nat.{zero, suc}
use Rattle.std.specs.Prelude.{ℕ, Bool, false, List, [], ◌∷◌, Option, None, Some, if◌then◌else◌}
use Rattle.std.specs.Option.{is_some, is_none}
use Rattle.keymap_check.specs.Types.{Lock, Holding, Cell, Char, Act, Bearer, Nobody, Throughout, Sole, Several, Finding}
use Rattle.keymap_core.specs.declared.action.Holding.TheVariants as holding
use Rattle.keymap_core.specs.Actions.{holding_of}
use Rattle.keymap_core.specs.Maps.{MapValue}
use Rattle.keymap_core.specs.Numbers.{key_count}
use Rattle.keymap_core.specs.Below.{gathered}
use Rattle.keymap_check.specs.declared.kind.Kind.TheVariants as kind
use Rattle.keymap_check.specs.Cells.{cell_of, first_place, place_at}

abbrev pub bears_holding : MapValue → ℕ → Holding → Bool
bears_holding m k a = is_some (first_place m (kind.Holding a) k)

-- the bearer of the action if no key but k bears it
abbrev pub bearer_by : ℕ → Option ℕ → Bearer
bearer_by k None = Throughout k
bearer_by k (Some p) = Sole k

abbrev pub bearer_with : MapValue → Holding → ℕ → Bearer
bearer_with m a k = bearer_by k (first_place m (kind.OtherThan a) k)

abbrev pub next_bearer : Bearer → Bearer → Bearer
next_bearer Nobody alone = alone
next_bearer _ alone = Several

-- the bearer of the action among the keys below n
unfoldable pub bearer_below : MapValue → Holding → ℕ → Bearer
bearer_below m a zero = Nobody
bearer_below m a (suc k) =
    if bears_holding m k a then next_bearer (bearer_below m a k) (bearer_with m a k) else bearer_below m a k

abbrev pub bearer_of : MapValue → Holding → Bearer
bearer_of m a = bearer_below m a key_count

-- all cells of the key are actions other than nop
abbrev pub steady_by : MapValue → ℕ → Bool
steady_by m k = is_none (first_place m kind.CharacterOrNop k)

abbrev pub is_steady_by : MapValue → Bearer → Bool
is_steady_by m Nobody = false
is_steady_by m (Throughout k) = steady_by m k
is_steady_by m (Sole k) = steady_by m k
is_steady_by m Several = false

abbrev pub is_steady : MapValue → Lock → Bool
is_steady m l = is_steady_by m (bearer_of m (holding.Lock l))

abbrev pub held_by : Cell → Option Holding
held_by (Char c) = None
held_by (Act a) = holding_of a

abbrev pub finding_with : ℕ → ℕ → ℕ → Option Holding → List Finding
finding_with k p q None = []
finding_with k p q (Some a) =
    record { key = k; holding = a; holding_at = place_at k p; character_at = place_at k q } ∷ []

abbrev pub finding_by : MapValue → ℕ → Option ℕ → Option ℕ → List Finding
finding_by m k None q = []
finding_by m k (Some p) None = []
finding_by m k (Some p) (Some q) = finding_with k p q (held_by (cell_of m k p))

-- the finding of a key, if it has one
abbrev pub findings_at : MapValue → ℕ → List Finding
findings_at m k = finding_by m k (first_place m kind.AnyHolding k) (first_place m kind.Character k)

abbrev pub findings_of : MapValue → List Finding
findings_of m = gathered (findings_at m) key_count
