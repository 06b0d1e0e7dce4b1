use Rattle.std.specs.Prelude.{◌≡◌}
use Rattle.std.specs.List.{flat_map, range_with_len}
use Rattle.keymap_names.specs.Lists.{listed_text}
use Rattle.keymap_names.proofs.lists.accents.Given as goal

abbrev pub invariant-loop-i : goal.invariant-loop-i
invariant-loop-i l = l.text.items ≡ flat_map (listed_text l.accents) (range_with_len 0 l.i)
