use Rattle.keymap_tables.proofs.Common.{arith, All-from_get_or, narrow}
use Rattle.keymap_tables.proofs.narrow.first_wide.Goals as goal

pub returns : goal.returns
returns g c =
    All-from_get_or (g.R.Row.Fits narrow) (g.R.Row.rows c.args.map.now) g.R.Row.blank
    (λ i below. c.loop-index.invariant i (omega (arith, below, c.count-index-end.ensures.value)))
