use Rattle.std.proofs.Common.{◌≡◌, take}
use Rattle.keymap_core.proofs.accent.Accent.copied.Given as goal

abbrev pub invariant-loop-pair : goal.invariant-loop-pair
invariant-loop-pair l = record {
  own : l.copy-inside.own ≡ l.self.own;
  pairs : l.copy-inside.pairs.items ≡ take l.pair-index l.pair-items;
}
