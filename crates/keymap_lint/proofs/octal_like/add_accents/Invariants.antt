use Rattle.keymap_lint.proofs.Common.{◌≡◌, ◌++◌, gathered}
use Rattle.keymap_lint.specs.Octal.{octal_accent}
use Rattle.keymap_lint.proofs.octal_like.add_accents.Given as goal

-- what is said of the accents so far
abbrev pub invariant-loop-index : goal.invariant-loop-index
invariant-loop-index l = l.found.items ≡ l.fn.found.items ++ gathered (octal_accent l.text) l.index
