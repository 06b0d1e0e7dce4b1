use Rattle.kmap_c.proofs.Common.{subst, ◌∷◌, map, between, KeptAt, event_of}
use Rattle.kmap_c.proofs.console.kmap_step.Goals as goal

pub returns-then-event-lt-KEYS_END-clause-delivers : goal.returns-then-event-lt-KEYS_END-clause-delivers
returns-then-event-lt-KEYS_END-clause-delivers c =
    λ numbers was _ m n is_m is_n e f.
    subst (λ x. KeptAt (between m n) (x ∷ map event_of numbers) c.step_kept.new.kept) c.event_of.ensures
    (c.step_kept.ensures.next (between m n) (map event_of numbers) (c.in-Some.ensures.shows m is_m e)
    (c.in-Some.ensures.shows n is_n f) (was m n is_m is_n e f))

pub returns-then-event-le-LAST_EVENT-clause-delivers : goal.returns-then-event-le-LAST_EVENT-clause-delivers
returns-then-event-le-LAST_EVENT-clause-delivers c =
    λ numbers was _ m n is_m is_n e f.
    subst (λ x. KeptAt (between m n) (x ∷ map event_of numbers) c.step_apart.new.store) c.event_of-then-event-le-LAST_EVENT.ensures
    (c.step_apart.ensures.next m n (map event_of numbers) is_m is_n e f (was m n is_m is_n e f))
