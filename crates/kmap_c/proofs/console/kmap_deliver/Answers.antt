use Rattle.kmap_c.proofs.Common.{subst, map, between, KeptAt, event_of}
use Rattle.kmap_c.proofs.Calls.{delivered}
use Rattle.kmap_c.proofs.console.kmap_deliver.Goals as goal

pub returns-clause-delivers : goal.returns-clause-delivers
returns-clause-delivers c =
    λ numbers was _ m n is_m is_n e f.
    subst (λ h. KeptAt (between m n) h c.deliver_all.new.store) (delivered c.args.events.now numbers)
    (c.deliver_all.ensures.stands (between m n) (map event_of numbers) (c.in-Some.ensures.shows m is_m e)
    (c.in-Some-new.ensures.shows n is_n f) (was m n is_m is_n e f))
