use Rattle.keymap_draw.proofs.Common.{◌≡◌, ◌≤◌, length, is_other, passing}
use Rattle.keymap_draw.proofs.half.other_keys.Given as goal

abbrev pub invariant-loop-key : goal.invariant-loop-key
invariant-loop-key l = record {
  passed : l.keys.items ≡ passing (is_other l.drawing l.half) l.key;
  few : length l.keys.items ≤ l.key;
}
