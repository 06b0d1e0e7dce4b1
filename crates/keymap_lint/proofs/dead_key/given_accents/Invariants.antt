use Rattle.keymap_lint.proofs.Common.{◌≡◌, ◌<◌, ℕ, false}
use Rattle.std.specs.Prelude.{take, slice_index_or, length}
use Rattle.keymap_lint.specs.Kinds.{is_given}
use Rattle.keymap_lint.proofs.dead_key.given_accents.Given as goal

-- whether the cells so far give each
abbrev pub invariant-loop-cell : goal.invariant-loop-cell
invariant-loop-cell l = record {
  given : (i : ℕ) → i < 15 → slice_index_or l.given i false ≡ is_given l.text (take l.cell-index l.cells) i;
  size : length l.given ≡ 15;
}
