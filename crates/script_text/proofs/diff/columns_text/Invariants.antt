use Rattle.script_text.proofs.Common.{◌≡◌, flat_map, range_with_len}
use Rattle.script_text.specs.Diff.{listed_column}
use Rattle.script_text.proofs.diff.columns_text.Given as goal

abbrev pub invariant-loop-place : goal.invariant-loop-place
invariant-loop-place l = l.text.items ≡ flat_map (listed_column l.columns) (range_with_len 0 l.place)
