-- what is typed while an accent before this one is pending was added
use Rattle.console_scripts.proofs.Common.{◌≤◌, ◌-◌}
use Rattle.console_scripts.proofs.Tapping.{MadeBelow}
use Rattle.console_scripts.specs.Inner.Places.{Gains}
use Rattle.console_scripts.specs.Inner.Tapped.{HasCharacter}
use Rattle.console_scripts.proofs.typed.add_composed.Given as goal

abbrev pub invariant-loop-accent : goal.invariant-loop-accent
invariant-loop-accent l = record {
  below : l.index ≤ 15;
  gains : Gains (HasCharacter l.fn.typed) (HasCharacter l.typed) (MadeBelow l.map l.tapped l.plain l.index);
}

abbrev pub decreases-loop-accent : goal.decreases-loop-accent
decreases-loop-accent l = 15 - l.index
