use Rattle.kmap_c.proofs.Common.{refl}
use Rattle.std.proofs.Common.{inl, inr}
use Rattle.kmap_c.proofs.Faulty.{unfaulty}
use Rattle.kmap_c.proofs.narrow.kmap_narrow.Goals as goal

pub returns-in_default-clause-status : goal.returns-in_default-clause-status
returns-in_default-clause-status c = inr (inl refl)

pub returns-in-Err-clause-status : goal.returns-in-Err-clause-status
returns-in-Err-clause-status c = inr (inr (inl refl))

pub returns-in-None-clause-status : goal.returns-in-None-clause-status
returns-in-None-clause-status c = inl refl

pub returns-in-Some-wide_in-clause-status : goal.returns-in-Some-wide_in-clause-status
returns-in-Some-wide_in-clause-status c = inr (inr (inr refl))

pub returns-in-None-clause-made : goal.returns-in-None-clause-made
returns-in-None-clause-made c =
    λ _.
    let read = c.in-Ok.ensures.image in
    let shows = c.in-Some.ensures.shows read.0 read.1 read.2 in (
      read.0,
      read.2,
      c.in-None.ensures read.0 shows,
      c.filled_files_are_whole.ensures.narrow _ read.0 (c.define_all.ensures read.0 shows c.clear.ensures),
    )

pub returns-in-Some-wide_in-clause-too_wide : goal.returns-in-Some-wide_in-clause-too_wide
returns-in-Some-wide_in-clause-too_wide c =
    λ _.
    let read = c.in-Ok.ensures.image in
    let shows = c.in-Some.ensures.shows read.0 read.1 read.2 in
    (read.0, read.1, read.2, (c.in-Some-wide_in.found, c.in-Some-wide_in.ensures read.0 shows, c.told_wide.ensures))

pub returns-in-None-clause-faulty : goal.returns-in-None-clause-faulty
returns-in-None-clause-faulty c = unfaulty _ c.args.tables.now (λ e. cc) c.in-Ok.ensures.image

pub returns-in-Some-wide_in-clause-faulty : goal.returns-in-Some-wide_in-clause-faulty
returns-in-Some-wide_in-clause-faulty c = unfaulty _ c.args.tables.now (λ e. cc) c.in-Ok.ensures.image

pub returns-in-None-clause-unmade : goal.returns-in-None-clause-unmade
returns-in-None-clause-unmade c = λ others. absurd (others refl)

pub returns-in-Some-wide_in-clause-unchanged : goal.returns-in-Some-wide_in-clause-unchanged
returns-in-Some-wide_in-clause-unchanged c = λ others. absurd (others refl)
