use Rattle.keymap_tables.proofs.Common.{◌≡◌, ◌+◌, ◌*◌, length, take, All, IsScalar, flat_map, IsPair, accent_fault}
use Rattle.keymap_tables.proofs.Common.{HasNoFault, AccentFits, number_bytes, numbers_of, number_size}
use Rattle.keymap_tables.proofs.read_accent.read_accent.Given as goal

-- The numbers so far have the bytes so far, and no fault stands there.
abbrev pub invariant-loop-pair : goal.invariant-loop-pair
invariant-loop-pair l = record {
  bytes : flat_map (number_bytes l.layout) (numbers_of l.accent)
      ≡ take (number_size l.layout * (1 + 2 * l.pair)) l.bytes;
  count : length l.accent.pairs ≡ l.pair;
  character : IsScalar l.accent.own;
  known : All IsPair l.accent.pairs;
  fits : AccentFits l.layout l.accent;
  sound : HasNoFault (accent_fault l.layout l.bytes) (number_size l.layout * (1 + 2 * l.pair));
}
