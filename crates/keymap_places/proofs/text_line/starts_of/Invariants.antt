use Rattle.keymap_places.proofs.Common.{◌≡◌, ◌-◌, length, get_or, AreStarts, line_end}
use Rattle.keymap_places.proofs.text_line.starts_of.Given as goal

abbrev pub invariant-loop-end : goal.invariant-loop-end
invariant-loop-end l = record {
  starts : AreStarts l.text l.starts.items;
  end : l.end ≡ line_end l.text (get_or l.starts.items (length l.starts.items - 1) 0);
}

abbrev pub decreases-loop-end : goal.decreases-loop-end
decreases-loop-end l = length l.text - l.end
