use Rattle.keymap_draw.proofs.Common.{◌≡◌, ◌+◌, ◌++◌, ◌<◌, drop, flat_map}
use Rattle.std.proofs.Common.{◌*◌, ◌^◌}
use Rattle.keymap_draw.specs.Boards.{laid}
use Rattle.keymap_draw.specs.Halves.{board_key}
use Rattle.keymap_draw.proofs.half.push_keys.Given as goal

abbrev pub invariant-loop-code : goal.invariant-loop-code
invariant-loop-code l = record {
  keys : l.sheet
      ++ flat_map (board_key l.drawing l.half l.y) (laid l.x l.run.y l.run.shape (drop l.code-index l.run.codes))
      ≡ l.fn.sheet ++ flat_map (board_key l.drawing l.half l.y) (laid l.run.x l.run.y l.run.shape l.run.codes);
  near : l.x < 2 ^ 16 + 400 * l.code-index;
}
