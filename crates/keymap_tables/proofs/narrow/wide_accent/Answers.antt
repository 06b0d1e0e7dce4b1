use Rattle.keymap_tables.proofs.Common.{arith, rules, All-from_get_or, AccentFits, blank, narrow}
use Rattle.keymap_tables.proofs.narrow.wide_accent.Goals as goal

pub returns : goal.returns
returns c =
    λ m shows. All-from_get_or (AccentFits narrow) m.accents blank
    (λ i below. c.loop-index.invariant m shows.0 shows.1 i (omega (arith, below, c.n_accs-index-end.ensures.count m shows)))
