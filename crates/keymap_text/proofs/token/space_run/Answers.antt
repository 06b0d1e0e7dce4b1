use Rattle.keymap_text.proofs.Common.{refl, sym, zip2_splat, length-chunk, ◌==◌}
use lib.Lanes.{chunk}
use Rattle.keymap_text.proofs.Vectors.{run_in, run_at_most, run_bound}
use Rattle.keymap_text.proofs.token.space_run.Goals as goal

pub returns-clause-some : goal.returns-clause-some
returns-clause-some c =
    run_at_most (λ c. c == 32) c.args.bytes.now _ _ c.requires c.type_inv.bytes c.first_set.ensures _
    (zip2_splat _ (chunk 0 16 c.args.bytes.now) 16 32 (length-chunk 0 16 c.args.bytes.now c.requires)) refl

pub returns-clause-all : goal.returns-clause-all
returns-clause-all c = λ short.
    let v = chunk 0 16 c.args.bytes.now in
    let long = length-chunk 0 16 c.args.bytes.now c.requires in
    sym (run_in (λ c. c == 32) c.args.bytes.now _ _ c.requires c.type_inv.bytes c.first_set.ensures _
    (zip2_splat _ v 16 32 long) refl short)

pub returns-clause-bound : goal.returns-clause-bound
returns-clause-bound c =
    run_bound (λ c. c == 32) c.args.bytes.now _ _ c.requires c.type_inv.bytes c.first_set.ensures _
    (zip2_splat _ (chunk 0 16 c.args.bytes.now) 16 32 (length-chunk 0 16 c.args.bytes.now c.requires))
