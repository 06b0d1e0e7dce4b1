use Rattle.script_text.proofs.Common.{◌≡◌, map, flat_map, range_with_len, Pair, bases_at}
use Rattle.script_text.proofs.cover.pairs.Given as goal

abbrev pub invariant-loop-accent : goal.invariant-loop-accent
invariant-loop-accent l =
    l.pairs.items ≡ flat_map (λ i. map (Pair i) (bases_at l.map i)) (range_with_len 0 l.accent)
