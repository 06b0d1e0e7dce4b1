use Rattle.keymap_text.proofs.Common.{◌≡◌, ◌≤◌, ◌+◌, ◌*◌, ◌++◌, ◌∷◌, length, take, flat_map, accent_name}
use Rattle.keymap_text.proofs.Common.{character_text, pair_text}
use Rattle.keymap_text.proofs.layout.accent_words.Given as goal

abbrev pub invariant-loop-base : goal.invariant-loop-base
invariant-loop-base l = record {
  text : l.line.items ≡ accent_name l.index ++ 32 ∷ (character_text l.accent.own
      ++ flat_map pair_text (take l.base-index l.base-items));
  size : length l.line.items ≤ 15 + 22 * l.base-index;
}
