use Rattle.script_text.proofs.Common.{◌≡◌, ◌++◌, take, flat_map, character_text, is_in}
use Rattle.script_text.proofs.cover.push_characters.Given as goal

abbrev pub invariant-loop-base : goal.invariant-loop-base
invariant-loop-base l =
    l.text.items ≡ l.fn.text.items ++ flat_map (character_text (is_in l.listing) l.accent) (take l.base-index l.bases)
