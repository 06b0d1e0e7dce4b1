use Rattle.keymap_diff.specs.Inner.Pushing.{PushesPlaces}
use Rattle.std.proofs.Common.{◌+◌, ◌*◌}
use Rattle.keymap_diff.proofs.compared.push_accents.Given as goal

abbrev pub invariant-loop-accent : goal.invariant-loop-accent
invariant-loop-accent l = PushesPlaces l.versions 2306 (2306 + l.accent * 3) l.fn.found.items l.found.items
