use Rattle.console_states.proofs.Common.{refl}
use Rattle.console_states.proofs.offers.is_offered_unlocked.Goals as goal

pub returns-in-Some : goal.returns-in-Some
returns-in-Some c =
    λ e. (
      c.loop-place.place,
      c.entry.result,
      c.entry.ensures,
      (
        c.if-not-is_any_locked.ensures.unlocked refl,
        (c.in-Some.field-0, c.in-Some.ensures.0, c.in-Some.ensures.1),
      ),
    )
