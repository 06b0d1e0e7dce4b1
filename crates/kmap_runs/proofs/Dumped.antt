-- A file that is read whole, up to one byte more than it has.
use Rattle.kmap_runs.proofs.Common.{◌≡◌, ℕ, ◌<◌, ◌++◌, List, Option, None, Some, length, ap, append-nil, ◌∙◌}
use Rattle.keymap_core.specs.Transfers.{ReadsUpTo}

-- bytes below the most that were asked for are all that there were
pub read-whole : (max : ℕ) (all bytes : List ℕ) (new : Option (List ℕ)) → ReadsUpTo max (Some all) new bytes
    → length bytes < max → all ≡ bytes
read-whole max all bytes None h few = absurd h.taken
read-whole max all bytes (Some rest) h few = h.taken ∙ ap (λ r. bytes ++ r) (h.whole few) ∙ append-nil bytes
