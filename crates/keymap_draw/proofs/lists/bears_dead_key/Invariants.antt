use Rattle.keymap_draw.proofs.Common.{◌≡◌, false}
use Rattle.keymap_core.specs.Borne.{any_below}
use Rattle.keymap_draw.specs.Lists.{slot_bears_dead_key}
use Rattle.keymap_draw.proofs.lists.bears_dead_key.Given as goal

abbrev pub invariant-loop-key : goal.invariant-loop-key
invariant-loop-key l = any_below (slot_bears_dead_key l.map l.half l.index) l.key ≡ false
