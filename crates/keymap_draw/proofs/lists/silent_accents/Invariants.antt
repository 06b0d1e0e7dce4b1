use Rattle.keymap_draw.proofs.Common.{◌≡◌, ◌≤◌, length, is_silent, passing}
use Rattle.keymap_draw.proofs.lists.silent_accents.Given as goal

abbrev pub invariant-loop-index : goal.invariant-loop-index
invariant-loop-index l = record {
  passed : l.accents.items ≡ passing (is_silent l.drawing.map) l.index;
  few : length l.accents.items ≤ l.index;
}
