use Rattle.std.proofs.Common.{◌≡◌, length}
use Rattle.kmap.proofs.keyboards.groups_among.Given as goal

abbrev pub invariant-loop-group : goal.invariant-loop-group
invariant-loop-group l = length l.groups ≡ 11
