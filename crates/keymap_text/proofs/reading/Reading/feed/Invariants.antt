use Rattle.keymap_text.proofs.Common.{◌≤◌, ◌-◌, length, take, Moves}
use Rattle.keymap_text.proofs.reading.Reading.feed.Given as goal

abbrev pub invariant-loop-at : goal.invariant-loop-at
invariant-loop-at l = record { inside : l.at ≤ length l.piece; moves : Moves l.fn.self l.self (take l.at l.piece) }

abbrev pub decreases-loop-at : goal.decreases-loop-at
decreases-loop-at l = length l.piece - l.at
