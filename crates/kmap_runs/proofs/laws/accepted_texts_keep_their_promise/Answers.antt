use Rattle.kmap_runs.proofs.Common.{refl}
use Rattle.kmap_runs.proofs.laws.accepted_texts_keep_their_promise.Goals as goal

pub returns : goal.returns
returns c =
    λ show text out (m, told, reads, (safe, same), appends).
    (m, reads, safe.0 refl, c.safe_maps_keep_their_promise.ensures m)
