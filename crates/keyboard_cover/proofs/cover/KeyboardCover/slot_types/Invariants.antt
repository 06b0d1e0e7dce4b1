-- no cell of a column below this one types
use Rattle.std.proofs.Common.{◌<◌, ℕ}
use Rattle.keyboard_cover.specs.Covering.{TypesAt}
use Rattle.keyboard_cover.proofs.cover.KeyboardCover.slot_types.Given as goal

abbrev pub invariant-loop-column : goal.invariant-loop-column
invariant-loop-column l = (c : ℕ) → c < l.column → TypesAt l.map l.self l.slot c → ⊥
