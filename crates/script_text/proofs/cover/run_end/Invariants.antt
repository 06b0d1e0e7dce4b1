use Rattle.script_text.proofs.Common.{◌<◌, ◌≤◌, slot_limit, AreAlike, is_in}
use Rattle.script_text.proofs.cover.run_end.Given as goal

abbrev pub invariant-loop-slot : goal.invariant-loop-slot
invariant-loop-slot l = (l.first < l.slot) × (l.slot ≤ slot_limit) × AreAlike (is_in l.listing) l.first l.slot
