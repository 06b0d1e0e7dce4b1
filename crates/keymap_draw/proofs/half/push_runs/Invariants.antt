use Rattle.keymap_draw.proofs.Common.{◌≡◌, ◌++◌, take, flat_map, run_keys}
use Rattle.keymap_draw.proofs.half.push_runs.Given as goal

abbrev pub invariant-loop-run : goal.invariant-loop-run
invariant-loop-run l = l.sheet ≡ l.fn.sheet ++ flat_map (run_keys l.drawing l.half l.y) (take l.run-index l.runs)
