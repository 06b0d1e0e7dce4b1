use Rattle.kmap_c.proofs.Common.{refl}
use Rattle.std.proofs.Common.{inl, inr}
use Rattle.kmap_c.proofs.Narrowed.{unfaulty-narrow}
use Rattle.kmap_c.proofs.narrow.kmap_widen.Goals as goal

pub returns-in_default-clause-status : goal.returns-in_default-clause-status
returns-in_default-clause-status c = inr (inl refl)

pub returns-in-Err-clause-status : goal.returns-in-Err-clause-status
returns-in-Err-clause-status c = inr (inr refl)

pub returns-clause-status : goal.returns-clause-status
returns-clause-status c = inl refl

pub returns-clause-made : goal.returns-clause-made
returns-clause-made c =
    λ _.
    let read = c.in-Ok.ensures.image in
    let shows = c.in-Some.ensures.shows read.0 read.1 (read.2, read.3) in (
      read.0,
      read.2,
      read.3,
      c.filled_files_are_whole.ensures.wide _ read.0 (c.define_all.ensures read.0 shows c.clear.ensures),
    )

pub returns-clause-faulty : goal.returns-clause-faulty
returns-clause-faulty c = unfaulty-narrow _ c.args.narrow_tables.now (λ e. cc) c.in-Ok.ensures.image

pub returns-clause-unmade : goal.returns-clause-unmade
returns-clause-unmade c = λ others. absurd (others refl)
