use Rattle.keymap_lint.proofs.Common.{◌≡◌, ◌≤◌, take, flat_map, array_vec_len}
use Rattle.keymap_lint.specs.Kinds.{nul_key}
use Rattle.keymap_lint.proofs.mixed_key.nul_keys.Given as goal

-- the keys of the findings that were passed
abbrev pub invariant-loop-finding : goal.invariant-loop-finding
invariant-loop-finding l = record {
  found : l.keys.items ≡ flat_map (nul_key l.text) (take l.finding-index l.findings);
  room : array_vec_len l.keys ≤ l.finding-index;
}
