use Rattle.kmap_runs.proofs.CoverScripts.{covers-shown}
use Rattle.kmap_runs.proofs.laws.printed_covers_are_scripts.Goals as goal

pub returns : goal.returns
returns c = λ text out (m, script, reads, covered, appends). (m, script, reads, appends, covers-shown m script covered)
