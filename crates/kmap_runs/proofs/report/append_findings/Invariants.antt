use Rattle.kmap_runs.proofs.Common.{◌≡◌, ◌+◌, ◌*◌, ◌≤◌, ◌++◌, take, flat_map, array_vec_len}
use Rattle.kmap_runs.specs.Report.{finding_line}
use Rattle.kmap_runs.proofs.report.append_findings.Given as goal

abbrev pub invariant-loop-finding : goal.invariant-loop-finding
invariant-loop-finding l =
    (l.text.items ≡ l.fn.text.items ++ flat_map finding_line (take l.finding-index l.findings))
    × (array_vec_len l.text ≤ array_vec_len l.fn.text + 97 * l.finding-index)
