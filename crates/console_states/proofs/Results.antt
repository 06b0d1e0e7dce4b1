-- What holds of a result follows from what holds of it.
use Rattle.console_states.proofs.Common.{Result, Ok, Err, IfOk}
use Rattle.std.proofs.Common.{OnOk}

pub ok-then : {A E : Type 0} {P Q : A → Type 0} (r : Result A E) → ((x : A) → P x → Q x) → IfOk r P → IfOk r Q
ok-then (Ok x) f p = f x p
ok-then (Err e) f p = tt

pub on_ok-then : {A E P Q : Type 0} (r : Result A E) → (P → Q) → OnOk r P → OnOk r Q
on_ok-then (Ok x) f p = f p
on_ok-then (Err e) f p = tt
