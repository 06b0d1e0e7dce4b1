use Rattle.kmap_runs.proofs.Common.{append_assoc, refl, sym}
use Rattle.kmap_runs.proofs.report.append_demonstration.Goals as goal

pub returns-in-Some : goal.returns-in-Some
returns-in-Some c =
    rw (c.append_events.ensures.text, c.as_slice.ensures.value, c.append.ensures, sym c.in-Some.ensures.first)
    (simp append_assoc)

pub returns-in-None : goal.returns-in-None
returns-in-None c = rw (c.append-in-None.ensures, sym c.in-None.ensures.first) refl
