use Rattle.kmap_c.proofs.Common.{refl}
use Rattle.std.proofs.Common.{inl, inr}
use Rattle.kmap_c.proofs.Faulty.{unfaulty}
use Rattle.kmap_c.proofs.tables.kmap_accepts.Goals as goal

pub returns-in_default-clause-status : goal.returns-in_default-clause-status
returns-in_default-clause-status c = inr (inl refl)

pub returns-in-Err-clause-status : goal.returns-in-Err-clause-status
returns-in-Err-clause-status c = inr (inr (inl refl))

pub returns-in-None-clause-accepted : goal.returns-in-None-clause-accepted
returns-in-None-clause-accepted c =
    λ _.
    let read = c.in-Ok.ensures.image in
    let shows = c.in-Some.ensures.shows read.0 read.1 read.2 in (
      read.0,
      read.1,
      read.2,
      (c.in-None.ensures.safe read.0 shows).0 refl,
      c.safe_maps_keep_their_promise.ensures read.0,
    )

pub returns-in-None-clause-status : goal.returns-in-None-clause-status
returns-in-None-clause-status c = inl refl

pub returns-in-Some-first_finding-clause-status : goal.returns-in-Some-first_finding-clause-status
returns-in-Some-first_finding-clause-status c = inr (inr (inr refl))

pub returns-in-None-clause-faulty : goal.returns-in-None-clause-faulty
returns-in-None-clause-faulty c = unfaulty _ c.args.tables.now (λ e. cc) c.in-Ok.ensures.image

pub returns-in-Some-first_finding-clause-faulty : goal.returns-in-Some-first_finding-clause-faulty
returns-in-Some-first_finding-clause-faulty c = unfaulty _ c.args.tables.now (λ e. cc) c.in-Ok.ensures.image

pub returns-in-Some-first_finding-clause-unchanged : goal.returns-in-Some-first_finding-clause-unchanged
returns-in-Some-first_finding-clause-unchanged c = λ others. absurd (others refl)
