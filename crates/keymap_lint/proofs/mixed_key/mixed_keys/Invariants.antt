use Rattle.keymap_lint.proofs.Common.{◌≡◌, take, flat_map, mixed_key}
use Rattle.keymap_lint.proofs.mixed_key.mixed_keys.Given as goal

-- what is said of the findings that were passed
abbrev pub invariant-loop-finding : goal.invariant-loop-finding
invariant-loop-finding l = l.found.items ≡ flat_map (mixed_key l.text) (take l.finding-index l.findings)
