use Rattle.script_text.proofs.Common.{◌≡◌, ◌++◌, map, take, Pair}
use Rattle.script_text.proofs.cover.add_pairs.Given as goal

abbrev pub invariant-loop-character : goal.invariant-loop-character
invariant-loop-character l =
    l.pairs.items ≡ l.fn.pairs.items ++ map (Pair l.accent) (take l.character-index l.characters)
