-- A second input that nobody asked.
use Rattle.kmap_runs.proofs.Common.{ℕ, List, Option, Some, None, Keeps-refl}
use Rattle.kmap_runs.specs.Inputs.{StaysIf, moves_if}

-- a reader that nobody asked has what it had
pub stays-same : {N : Type 0} (remaining : N → Option (List ℕ)) (next : Option N)
    → StaysIf (moves_if remaining next next)
stays-same remaining None = tt
stays-same remaining (Some reader) = Keeps-refl _
