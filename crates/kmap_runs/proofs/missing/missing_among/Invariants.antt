use Rattle.std.proofs.Common.{◌≡◌, ℕ, eqb, length, take}
use Rattle.std.specs.List.{list_any}
use Rattle.std.specs.Str.{encode_utf8_all}
use Rattle.kmap_runs.specs.Missing.{AreMissing}
use Rattle.kmap_runs.proofs.missing.missing_among.Given as goal

-- the characters so far were seen, and those of them that keys can't type were found
abbrev pub invariant-loop-c : goal.invariant-loop-c
invariant-loop-c l = record {
  offset : l.offset ≡ length (encode_utf8_all (take l.c-index l.characters));
  seen : (q : ℕ) → list_any (eqb q) l.seen.keys ≡ list_any (eqb q) (take l.c-index l.characters);
  are : AreMissing l.typist (take l.c-index l.characters) l.found.items;
}
