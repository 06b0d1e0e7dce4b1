use Rattle.keymap_fmt.proofs.Common.{◌≡◌, ◌++◌, replicate}
use Rattle.keymap_fmt.proofs.layout.push_blanks.Given as goal

abbrev pub invariant-loop-blank : goal.invariant-loop-blank
invariant-loop-blank l = l.laid.items ≡ l.initial.laid.items ++ replicate l._blank 32
