use Rattle.script_text.proofs.Common.{◌≡◌, flat_map, range_with_len}
use Rattle.script_text.specs.Diff.{place_if}
use Rattle.script_text.proofs.diff.line_places.Given as goal

abbrev pub invariant-loop-place : goal.invariant-loop-place
invariant-loop-place l = l.places.items ≡ flat_map (place_if l.from l.to l.changes) (range_with_len 0 l.place)
