use Rattle.kmap_runs.proofs.Common.{◌≡◌, ◌+◌, ◌*◌, ◌≤◌, ◌++◌, take, flat_map, array_vec_len}
use Rattle.kmap_runs.specs.Report.{holding_line}
use Rattle.kmap_runs.proofs.report.append_holdings.Given as goal

abbrev pub invariant-loop-holding : goal.invariant-loop-holding
invariant-loop-holding l =
    (l.text.items ≡ l.fn.text.items ++ flat_map (holding_line l.report) (take l.holding-index l.holdings))
    × (array_vec_len l.text ≤ array_vec_len l.fn.text + 96 * l.holding-index)
