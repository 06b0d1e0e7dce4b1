use Rattle.std.specs.Prelude.{◌≡◌}
use Rattle.std.specs.List.{flat_map, range_with_len}
use Rattle.keymap_lint_text.specs.Letters.{listed_item}
use Rattle.keymap_lint_text.proofs.letters.list.Given as goal

abbrev pub invariant-loop-i : goal.invariant-loop-i
invariant-loop-i l = l.text.items ≡ flat_map (listed_item l.listed l.last l.characters) (range_with_len 0 l.i)
