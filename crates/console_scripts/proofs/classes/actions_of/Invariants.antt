-- the codes so far are told
use Rattle.console_scripts.proofs.Common.{◌≡◌, ℕ, ◌<◌, false, length}
use Rattle.std.specs.Prelude.{slice_index_or}
use Rattle.console_scripts.specs.Inner.Courses.{presses_code_in}
use Rattle.console_scripts.proofs.classes.actions_of.Given as goal

abbrev pub invariant-loop-code : goal.invariant-loop-code
invariant-loop-code l = record {
  told : (c : ℕ) → c < l.code → slice_index_or l.actions c false ≡ presses_code_in l.class c;
  size : length l.actions ≡ 256;
}
