use Rattle.kmap_c.proofs.Common.{◌≡◌, drop}
use Rattle.kmap_c.specs.Numbers.{are_events}
use Rattle.kmap_c.proofs.console.are_events.Given as goal

abbrev pub invariant-loop-number : goal.invariant-loop-number
invariant-loop-number l = are_events (drop l.number-index l.numbers) ≡ are_events l.numbers
