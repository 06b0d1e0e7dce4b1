use Rattle.kmap_runs.proofs.Common.{◌≡◌, flat_map, take}
use Rattle.kmap_runs.specs.Missing.{missing_line}
use Rattle.kmap_runs.proofs.missing.missing_text.Given as goal

abbrev pub invariant-loop-one : goal.invariant-loop-one
invariant-loop-one l = l.text.items ≡ flat_map (missing_line l.shown.items l.sentence) (take l.one-index l.found)
