use Rattle.keymap_core.proofs.Common.{◌≡◌, ◌≤◌, ◌+◌, ◌-◌, ◌++◌, length, replicate, vec_len, vec_capacity, blank}
use Rattle.keymap_core.proofs.map.KeyMap.set_accent.Given as goal

-- The accents are those at the start, and blank ones after them, up to the index.
abbrev pub invariant-loop-self : goal.invariant-loop-self
invariant-loop-self l = record {
  grown : l.self-inside.accents.items
      ≡ l.fn.self.accents ++ replicate (vec_len l.self-inside.accents - length l.fn.self.accents) blank;
  longer : length l.fn.self.accents ≤ vec_len l.self-inside.accents;
  short : vec_len l.self-inside.accents - length l.fn.self.accents ≤ l.index + 1 - length l.fn.self.accents;
  few : vec_len l.self-inside.accents ≤ 15;
  room : 15 ≤ vec_capacity l.self-inside.accents;
  entries : l.self-inside.entries ≡ l.initial.self-inside.entries;
  past : l.self-inside.past ≡ l.initial.self-inside.past;
  blank : l.self-inside.blank ≡ l.initial.self-inside.blank;
}

abbrev pub decreases-loop-self : goal.decreases-loop-self
decreases-loop-self l = l.index + 1 - vec_len l.self-inside.accents
