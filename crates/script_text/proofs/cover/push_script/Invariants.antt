use Rattle.script_text.proofs.Common.{◌≡◌, ◌++◌, flat_map, range_with_len, event_lines}
use Rattle.script_text.proofs.cover.push_script.Given as goal

abbrev pub invariant-loop-place : goal.invariant-loop-place
invariant-loop-place l =
    l.text.items ≡ l.fn.text.items ++ flat_map (event_lines l.starts l.events) (range_with_len 0 l.place)
