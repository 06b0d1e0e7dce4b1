-- What was read gives a text, which a run writes.
use Rattle.kmap_runs.proofs.Common.{ℕ, List, Result, Ok, Err, ◌≡◌, inl, subst, sym}
use Rattle.keymap_core.specs.declared.transfer.WriteFault.{WriteFault}
use Rattle.play_core.specs.Runs.{Moves, Runs, StopsWriting}
use Rattle.std.specs.Io.KnownBytes.{Appends}
use Rattle.std.specs.Prelude.{MatchResult}

-- the text was written, or its first bytes: that is a run
pub once_written : {V X E : Type 0} (told_as : WriteFault → E) (Reads : Result V E → Type 0) (Lacks : V → E → Type 0)
    (Gives : V → X → List ℕ → Type 0) (out : Moves) (v : V) (x : X) (text : List ℕ) (r : Result X E)
    → Reads (Ok v) → Gives v x text
    → MatchResult r (λ y. (y ≡ x) × Appends out.old out.new text) (λ e. StopsWriting told_as e text out)
    → Runs told_as Reads Lacks Gives out r
once_written told_as Reads Lacks Gives out v x text (Ok y) reads gives (same, bytes) =
    (v, text, reads, subst (λ y. Gives v y text) (sym same) gives, bytes)
once_written told_as Reads Lacks Gives out v x text (Err e) reads gives stops = inl (v, x, text, reads, gives, stops)
