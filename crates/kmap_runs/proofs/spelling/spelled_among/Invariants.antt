use Rattle.std.proofs.Common.{◌≡◌, ℕ, eqb, length, take}
use Rattle.std.specs.List.{list_any}
use Rattle.std.specs.Str.{encode_utf8_all}
use Rattle.kmap_runs.proofs.Spellings.{AreSpelledSo}
use Rattle.kmap_runs.proofs.spelling.spelled_among.Given as goal

-- the characters so far were seen, and each different one is typed by itself
abbrev pub invariant-loop-c : goal.invariant-loop-c
invariant-loop-c l = record {
  offset : l.offset ≡ length (encode_utf8_all (take l.c-index l.characters));
  seen : (q : ℕ) → list_any (eqb q) l.seen.keys ≡ list_any (eqb q) (take l.c-index l.characters);
  so : AreSpelledSo l.board l.map (take l.c-index l.characters) l.each.items;
}
