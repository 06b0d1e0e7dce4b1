use Rattle.kmap_runs.proofs.Common.{◌≡◌, ◌++◌, drop, characters_of, line_shown}
use Rattle.kmap_runs.proofs.typing.push_line.Given as goal

-- what is shown and what is left to show are the whole line
abbrev pub invariant-loop-one : goal.invariant-loop-one
invariant-loop-one l =
    l.text.items ++ line_shown (characters_of (drop l.one-index l.keyed))
    ≡ l.fn.text.items ++ line_shown (characters_of l.keyed)
