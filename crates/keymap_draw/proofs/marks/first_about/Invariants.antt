use Rattle.keymap_draw.proofs.Common.{◌≡◌, drop}
use Rattle.keymap_draw.specs.Drawings.{line_about}
use Rattle.keymap_draw.proofs.marks.first_about.Given as goal

abbrev pub invariant-loop-line : goal.invariant-loop-line
invariant-loop-line l = line_about (drop l.line-index l.lines) l.about ≡ line_about l.lines l.about
