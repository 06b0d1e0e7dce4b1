-- no cell of a slot below this one types
use Rattle.std.proofs.Common.{◌<◌, ℕ}
use Rattle.keymap_core.specs.Numbers.{column_count}
use Rattle.keyboard_cover.specs.Covering.{TypesAt}
use Rattle.keyboard_cover.proofs.cover.KeyboardCover.types.Given as goal

abbrev pub invariant-loop-slot : goal.invariant-loop-slot
invariant-loop-slot l = (s c : ℕ) → s < l.slot → c < column_count → TypesAt l.map l.self s c → ⊥
