use Rattle.kmap_runs.proofs.Common.{drawing}
use Rattle.kmap_runs.proofs.laws.drawn_pictures_are_well_formed.Goals as goal

pub returns : goal.returns
returns c =
    λ board name text out (m, drawn, reads, (is, shows), appends). (
      drawn,
      appends,
      c.pictures_are_well_formed.ensures (drawing m board name) drawn shows,
      c.pictures_are_plain.ensures (drawing m board name) drawn shows,
    )
