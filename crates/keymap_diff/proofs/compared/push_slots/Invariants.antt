use Rattle.keymap_diff.specs.Inner.Pushing.{PushesPlaces}
use Rattle.std.proofs.Common.{◌+◌}
use Rattle.keymap_diff.proofs.compared.push_slots.Given as goal

abbrev pub invariant-loop-place : goal.invariant-loop-place
invariant-loop-place l = PushesPlaces l.versions 2 (2 + l.place) l.fn.found.items l.found.items
