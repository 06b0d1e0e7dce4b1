use Rattle.script_text.proofs.Common.{◌≤◌, ◌-◌, slot_limit, ListsSlots, is_in}
use Rattle.script_text.proofs.cover.slots.Given as goal

abbrev pub invariant-loop-first : goal.invariant-loop-first
invariant-loop-first l = (l.first ≤ slot_limit) × ListsSlots (is_in l.listing) l.listing.word.now l.first l.text.items

abbrev pub decreases-loop-first : goal.decreases-loop-first
decreases-loop-first l = slot_limit - l.first
