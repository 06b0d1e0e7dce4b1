-- all places before this one are marked at which there is something
use Rattle.console_scripts.proofs.Common.{ℕ, ◌<◌, ◌≡◌, true}
use Rattle.console_scripts.specs.Inner.Places.{IsMarked, cell_of_place, gives_cell}
use Rattle.console_scripts.proofs.few.are_all_marked.Given as goal

abbrev pub invariant-loop-place : goal.invariant-loop-place
invariant-loop-place l =
    (p : ℕ) → p < l.place → gives_cell (cell_of_place l.map p) ≡ true → IsMarked l.marks p
