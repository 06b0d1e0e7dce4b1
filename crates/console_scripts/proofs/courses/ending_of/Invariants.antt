-- the keys so far are told, and whether some is
use Rattle.console_scripts.proofs.Common.{◌≡◌, ℕ, ◌<◌, true, false, length}
use Rattle.std.specs.Prelude.{slice_index_or}
use Rattle.console_scripts.specs.Inner.Courses.{Lacks, MayEnd}
use Rattle.console_scripts.proofs.courses.ending_of.Given as goal

abbrev pub invariant-loop-code : goal.invariant-loop-code
invariant-loop-code l = record {
  taken : (k : ℕ) → k < l.code → slice_index_or l.keys k false ≡ true → MayEnd l.board l.course l.target k;
  other : (k : ℕ) → k < l.code → slice_index_or l.keys k false ≡ false → MayEnd l.board l.course l.target k
      → Lacks l.map l.course.accent l.target.character k;
  none : l.has_any ≡ false → (k : ℕ) → k < l.code → slice_index_or l.keys k false ≡ false;
  size : length l.keys ≡ 128;
}
