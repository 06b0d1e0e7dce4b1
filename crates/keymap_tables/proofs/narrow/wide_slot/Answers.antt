use Rattle.keymap_tables.proofs.Common.{arith, rules, All-from_get_or, EntryFits, undefined, narrow}
use Rattle.keymap_tables.proofs.narrow.wide_slot.Goals as goal

pub returns : goal.returns
returns c =
    λ m shows. All-from_get_or (EntryFits narrow) m.entries undefined
    (λ i below. c.loop-slot.invariant m shows.0 shows.1 i (omega (arith, below, c.n_keys-slot-end.ensures.count m shows)))
