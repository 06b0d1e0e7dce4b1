-- A run that reads one input and then does what another run does.
use Rattle.play_core.proofs.Common.{ℕ, List, Result, Ok, Err, inl, inr, ReadsBoth}
use Rattle.keymap_core.specs.declared.transfer.WriteFault.{WriteFault}
use Rattle.play_core.specs.Runs.{Moves, Runs}

-- the first input was read, and the rest ran with its value
pub after_first : {A B X E : Type 0} (told_as : WriteFault → E) (First : Result A E → Type 0)
    (Second : Result B E → Type 0) (stays : Type 0) (Lacks : A × B → E → Type 0)
    (Gives : A × B → X → List ℕ → Type 0) (out : Moves) (a : A) (r : Result X E) → First (Ok a)
    → Runs told_as Second (λ (b : B) e. Lacks (a, b) e) (λ (b : B) (x : X) t. Gives (a, b) x t) out r
    → Runs told_as (ReadsBoth First Second stays) Lacks Gives out r
after_first told_as First Second stays Lacks Gives out a (Ok x) first (b, text, second, gives, appends) =
    ((a, b), text, (first, second), gives, appends)
after_first told_as First Second stays Lacks Gives out a (Err e) first (inl (b, x, text, second, gives, stops)) =
    inl ((a, b), x, text, (first, second), gives, stops)
after_first told_as First Second stays Lacks Gives out a (Err e) first (inr (inl refused, kept)) =
    inr (inl (inr (a, first, refused)), kept)
after_first told_as First Second stays Lacks Gives out a (Err e) first (inr (inr (b, second, lacks), kept)) =
    inr (inr ((a, b), (first, second), lacks), kept)
