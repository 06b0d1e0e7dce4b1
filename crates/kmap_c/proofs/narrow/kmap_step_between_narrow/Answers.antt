use Rattle.kmap_c.proofs.Common.{subst, ◌∷◌, map, between, KeptAt, event_of}
use Rattle.kmap_c.proofs.Narrowed.{narrow-of}
use Rattle.kmap_c.proofs.narrow.kmap_step_between_narrow.Goals as goal

pub returns-clause-delivers : goal.returns-clause-delivers
returns-clause-delivers c =
    λ tables others numbers are too was _ m n is_m is_n e f.
    subst (λ x. KeptAt (between m n) (x ∷ map event_of numbers) c.step_kept.new.kept) c.event_of.ensures
    (c.step_kept.ensures.next (between m n) (map event_of numbers)
    (c.in-Some.ensures.shows m is_m (narrow-of _ tables m are is_m e))
    (c.in-Some-new.ensures.shows n is_n (narrow-of _ others n too is_n f)) (was m n is_m is_n e f))
