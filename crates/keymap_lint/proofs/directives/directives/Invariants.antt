use Rattle.keymap_lint.proofs.Common.{◌≡◌, gathered}
use Rattle.keymap_lint.specs.Directives.{directive_at}
use Rattle.keymap_lint.proofs.directives.directives.Given as goal

-- the directives of the places that were passed
abbrev pub invariant-loop-place : goal.invariant-loop-place
invariant-loop-place l = l.found.items ≡ gathered (directive_at l.bytes l.text) l.place
