-- What tests states equal, and what a hasher is fed of them. Mirrors `hash` of src/held/moves.rt, which cites a lemma
-- too: a source can cite none of proofs/.
use Rattle.std.proofs.Common.{◌≡◌, ℕ, Bool, true, false, ◌&&◌, eqb, List, [], ◌∷◌, ap, ◌∙◌}
use Rattle.std.specs.Prelude.{slice_index_or}
use Rattle.std.specs.Int.{from_bool}
use Rattle.std.specs.Cmp.{booleans_Decides, unsigned_Decides}
use Rattle.std.specs.Cmp.Lexicographic.{pointwise, pointwise_decides}
use Rattle.std.proofs.lemmas.Bool.{and_parts}
use mathlib.Core.Bool.{beq}
use Rattle.console_states.specs.declared.held.Held.{Held}

-- the numbers of the holders, then 1 for each lock that is on, for the second map in force, and for a pending accent
abbrev pub bytes_from : List ℕ → List Bool → Bool → Bool → List ℕ
bytes_from holders locks is_second is_pending =
    let at = slice_index_or holders in
    let lock_at : ℕ → ℕ = λ n. from_bool (slice_index_or locks n false) in
    at 0 0 ∷ at 1 0 ∷ at 2 0 ∷ at 3 0 ∷ at 4 0 ∷ at 5 0 ∷ at 6 0 ∷ at 7 0 ∷ lock_at 0 ∷ lock_at 1 ∷ lock_at 2
    ∷ lock_at 3 ∷ from_bool is_second ∷ from_bool is_pending ∷ []

abbrev pub bytes_of : Held → List ℕ
bytes_of h = bytes_from h.holders h.locks h.is_second h.is_pending

-- what tests states equal
abbrev pub are_same : Held → Held → Bool
are_same x y =
    pointwise eqb x.holders y.holders
    && (pointwise beq x.locks y.locks && (beq x.is_second y.is_second && beq x.is_pending y.is_pending))

-- two states have the same tables, the same map in force, and the accent is pending in both or in none
abbrev pub AreSame : Held → Held → Type 0
AreSame x y =
    (x.holders ≡ y.holders) × (x.locks ≡ y.locks) × (x.is_second ≡ y.is_second) × (x.is_pending ≡ y.is_pending)

pub held-equal : (x y : Held) → are_same x y ≡ true → AreSame x y
held-equal x y e =
    let p = and_parts _ _ e in
    let q = and_parts _ _ p.1 in
    let r = and_parts _ _ q.1 in (
      (pointwise_decides unsigned_Decides x.holders y.holders).0 p.0,
      (pointwise_decides booleans_Decides x.locks y.locks).0 q.0,
      (booleans_Decides x.is_second y.is_second).0 r.0,
      (booleans_Decides x.is_pending y.is_pending).0 r.1,
    )

pub same-bytes : (x y : Held) → are_same x y ≡ true → bytes_of x ∷ [] ≡ bytes_of y ∷ []
same-bytes x y e =
    let p = held-equal x y e in
    ap (λ z. bytes_from z x.locks x.is_second x.is_pending ∷ []) p.0
    ∙ ap (λ z. bytes_from y.holders z x.is_second x.is_pending ∷ []) p.1
    ∙ ap (λ b. bytes_from y.holders y.locks b x.is_pending ∷ []) p.2
    ∙ ap (λ b. bytes_from y.holders y.locks y.is_second b ∷ []) p.3
