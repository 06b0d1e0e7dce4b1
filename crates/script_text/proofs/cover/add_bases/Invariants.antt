use Rattle.script_text.proofs.Common.{◌≡◌, drop}
use Rattle.script_text.specs.Cover.{with_bases}
use Rattle.script_text.proofs.cover.add_bases.Given as goal

-- what the pairs that are left add
abbrev pub invariant-loop-pair : goal.invariant-loop-pair
invariant-loop-pair l =
    with_bases l.bases.items (drop l.pair-index l.pairs) ≡ with_bases l.fn.bases.items l.pairs
