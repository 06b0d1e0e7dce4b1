use Rattle.keymap_tables.proofs.Common.{arith, ◌<◌, All-from_get_or, numbers_of}
use Rattle.keymap_tables.proofs.AccentImages.{length-numbers}
use Rattle.keymap_tables.proofs.accent.wide_number.Goals as goal

pub returns : goal.returns
returns c =
    All-from_get_or (λ n. n < 256) (numbers_of c.args.accent.now) 0
    (λ k below. let small = c.loop-index.invariant k (omega (arith, below, length-numbers c.args.accent.now)) in
    omega arith)
