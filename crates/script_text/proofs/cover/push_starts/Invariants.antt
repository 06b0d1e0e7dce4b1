use Rattle.script_text.proofs.Common.{◌≡◌, ◌++◌, take, flat_map, start_line}
use Rattle.script_text.proofs.cover.push_starts.Given as goal

abbrev pub invariant-loop-start : goal.invariant-loop-start
invariant-loop-start l =
    l.text.items ≡ l.fn.text.items ++ flat_map (start_line l.place) (take l.start-index l.starts)
