use Rattle.script_text.proofs.Common.{◌≡◌, flat_map, range_with_len}
use Rattle.script_text.specs.Diff.{item_at}
use Rattle.script_text.proofs.diff.items.Given as goal

abbrev pub invariant-loop-place : goal.invariant-loop-place
invariant-loop-place l = l.text.items ≡ flat_map (item_at l.are_unseen l.line) (range_with_len 0 l.place)
