use Rattle.kmap_runs.proofs.Untyped.{offsets_within}
use Rattle.kmap_runs.proofs.missing_runs.told_of.Goals as goal

pub missing_text-requires : goal.missing_text-requires
missing_text-requires c = rw c.as_slice.ensures.value (offsets_within _ _ _ c.in-Ok.ensures.ok)
