use Rattle.std.specs.Prelude.{◌≡◌}
use Rattle.std.specs.List.{flat_map, range_with_len}
use Rattle.keymap_names.specs.Lists.{run_text}
use Rattle.keymap_names.proofs.lists.ranges.Given as goal

abbrev pub invariant-loop-i : goal.invariant-loop-i
invariant-loop-i l = l.text.items ≡ flat_map (run_text l.numbers) (range_with_len 0 l.i)
