use Rattle.std.specs.Prelude.{◌≡◌, ◌-◌, ◌≤◌, ◌++◌, length, map}
use Rattle.keymap_names.specs.Shown.{shown_char, shown_chars}
use Rattle.keymap_names.proofs.shown.first_chars.Given as goal

-- the characters so far, and those of the bytes that are left
abbrev pub invariant-loop-rest : goal.invariant-loop-rest
invariant-loop-rest l = record {
  few : length l.characters.items ≤ l.limit;
  parted : l.characters.items ++ map shown_char l.rest ≡ shown_chars l.fn.bytes;
}

abbrev pub decreases-loop-rest : goal.decreases-loop-rest
decreases-loop-rest l = l.limit - length l.characters.items
