use Rattle.play_core.proofs.Common.{ℕ, ◌+◌, ◌-◌, ◌≤◌, List, length, IsReadTo}
use Rattle.play_core.proofs.script.read_plain_lines.Given as goal

-- what is left of the text follows the lines that were added
abbrev pub invariant-loop-told : goal.invariant-loop-told
invariant-loop-told l = record {
  read : (script : List ℕ) (number : ℕ) → IsReadTo script number l.fn.events.items l.text
      → IsReadTo script (number + (length l.events.items - length l.fn.events.items)) l.events.items l.rest;
  more : length l.fn.events.items ≤ length l.events.items;
  shorter : length l.rest ≤ length l.text;
}

abbrev pub decreases-loop-told : goal.decreases-loop-told
decreases-loop-told l = length l.rest
