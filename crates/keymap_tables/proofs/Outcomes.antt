-- Facts for one variant of a result.
use Rattle.keymap_tables.proofs.Common.{◌≡◌, subst, sym, Result, Ok, Err, IfErr}
use Rattle.std.specs.Prelude.{IsErrAnd, OnOk}

-- what holds for a success may be weakened
pub OnOk-map : {X E : Type 0} (r : Result X E) (P Q : Type 0) → OnOk r P → (P → Q) → OnOk r Q
OnOk-map (Ok x) P Q held step = step held
OnOk-map (Err e) P Q held step = held

-- what holds for a refusal may be weakened
pub IfErr-map : {X E : Type 0} (r : Result X E) (P Q : E → Type 0) → IfErr r P → ((e : E) → P e → Q e) → IfErr r Q
IfErr-map (Ok x) P Q held step = held
IfErr-map (Err e) P Q held step = step e held

-- a success has what holds for successes
pub OnOk-at : {X E : Type 0} (r : Result X E) (x : X) (P : Type 0) → r ≡ Ok x → OnOk r P → P
OnOk-at {X = X} {E = E} r x P is held = subst (λ (v : Result X E). OnOk v P) is held

-- the error that a `?` passes on
pub err_passed : {X E : Type 0} (r : Result X E) (e : E) (Q : E → Type 0) → IsErrAnd r (λ f. f ≡ e) → Q e → IfErr r Q
err_passed (Ok x) e Q is here = absurd is
err_passed (Err f) e Q is here = subst Q (sym is) here
