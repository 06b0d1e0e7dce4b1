use Rattle.script_text.proofs.Common.{◌≡◌, ◌++◌, flat_map, range_with_len, column_text, is_in}
use Rattle.script_text.proofs.cover.push_columns.Given as goal

abbrev pub invariant-loop-column : goal.invariant-loop-column
invariant-loop-column l =
    l.text.items ≡ l.fn.text.items ++ flat_map (column_text (is_in l.listing) l.slot) (range_with_len 0 l.column)
