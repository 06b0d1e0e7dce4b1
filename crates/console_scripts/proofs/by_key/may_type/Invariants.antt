-- no cell of the key makes the character behind the dead keys so far
use Rattle.console_scripts.proofs.Common.{ℕ, ◌<◌, ◌≤◌, ◌-◌, Some}
use Rattle.console_scripts.specs.Inner.Courses.{Lacks}
use Rattle.console_scripts.proofs.by_key.may_type.Given as goal

abbrev pub invariant-loop-index : goal.invariant-loop-index
invariant-loop-index l = record {
  below : l.index ≤ 15;
  lacks : (i : ℕ) → i < l.index → Lacks l.map (Some i) l.character l.key;
}

abbrev pub decreases-loop-index : goal.decreases-loop-index
decreases-loop-index l = 15 - l.index
