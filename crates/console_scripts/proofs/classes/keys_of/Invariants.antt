-- the keys so far are told
use Rattle.console_scripts.proofs.Common.{◌≡◌, ℕ, ◌<◌, length}
use Rattle.std.specs.Prelude.{slice_index_or}
use Rattle.console_states.specs.declared.allowed.KeyPresses.TheVariants.{Never}
use Rattle.console_scripts.specs.Inner.Courses.{presses_always, takes_key}
use Rattle.console_scripts.proofs.classes.keys_of.Given as goal

abbrev pub invariant-loop-code : goal.invariant-loop-code
invariant-loop-code l = record {
  told : (k : ℕ) → k < l.code
      → slice_index_or l.keys k Never ≡ presses_always (takes_key l.board l.class l.spared k);
  size : length l.keys ≡ 128;
}
