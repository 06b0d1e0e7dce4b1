use Rattle.keymap_tables.proofs.Common.{◌≡◌, ◌*◌, length, take, flat_map, number_bytes, numbers_of, number_size}
use Rattle.keymap_tables.proofs.accent.push_accent.Given as goal

-- The numbers so far were appended.
abbrev pub invariant-loop-index : goal.invariant-loop-index
invariant-loop-index l = record {
  bytes : l.image.items ≡ flat_map (number_bytes l.layout) (take l.index (numbers_of l.accent));
  each : length l.image.items ≡ number_size l.layout * l.index;
}
