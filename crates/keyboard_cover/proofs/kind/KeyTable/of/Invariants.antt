use Rattle.std.proofs.Common.{◌≡◌, length}
use Rattle.keymap_core.specs.Numbers.{key_count}
use Rattle.keyboard_cover.proofs.kind.KeyTable.of.Given as goal

abbrev pub invariant-loop-code : goal.invariant-loop-code
invariant-loop-code l = (length l.keys.0 ≡ key_count) × (length l.keys.1.0 ≡ key_count)
