use Rattle.kmap_runs.proofs.CoverScripts.{covers-played}
use Rattle.kmap_runs.proofs.laws.printed_covers_are_played.Goals as goal

pub returns : goal.returns
returns c = covers-played
