-- Whether nothing differs, and what holds of a value, if there is one.
use Rattle.kmap_runs.proofs.Common.{◌≡◌, ◌==◌, ◌∙◌, Bool, true, List, [], Ok, Err, Result, length, ap, sym}
use Rattle.std.proofs.Common.{eqb-true}
use Rattle.std.proofs.lemmas.List.{nil_from_length}
use Rattle.std.specs.Prelude.{IfOk}

-- whether nothing was found is whether this holds
pub none_found : {X P : Type 0} (xs : List X) (none : Bool) → none ≡ (length xs == 0)
    → (xs ≡ [] → P) × (P → xs ≡ []) → (none ≡ true → P) × (P → none ≡ true)
none_found xs none e law =
    (λ yes. law.0 (nil_from_length xs (eqb-true _ 0 (sym e ∙ yes))), λ p. e ∙ ap (λ z. length z == 0) (law.1 p))

-- what holds of the value, if there is one, by what else holds of it
pub so_if_ok : {X E : Type 0} (r : Result X E) (P Q : X → Type 0) → ((x : X) → P x → Q x) → IfOk r P → IfOk r Q
so_if_ok (Ok x) P Q so p = so x p
so_if_ok (Err e) P Q so p = tt
