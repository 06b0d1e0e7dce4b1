use Rattle.keymap_draw.proofs.Common.{◌≡◌, ◌≤◌, length, has_character, passing}
use Rattle.keymap_draw.proofs.lists.named_accents.Given as goal

abbrev pub invariant-loop-index : goal.invariant-loop-index
invariant-loop-index l = record {
  passed : l.accents.items ≡ passing (has_character l.map) l.index;
  few : length l.accents.items ≤ l.index;
}
